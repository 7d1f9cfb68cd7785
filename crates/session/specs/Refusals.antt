-- How a session's refusals are told. Assumes nothing: these are definitions.
use Rattle.std.specs.Prelude.{ℕ, ◌+◌, ◌*◌, cond, List, ◌++◌, codes, Ok, Err, Result, nat_lt}
use Rattle.std.specs.Fmt.{decimal}
use Rattle.peer.specs.Refusals.{refusal_number, refusal_place}
use Rattle.peer.specs.declared.numbers.Peer as numbers
use Rattle.peer.specs.declared.refusal.Refusal.{Refusal}
use Rattle.peer.specs.declared.refusal.Refusal.TheVariants.{States}
use Rattle.session.specs.declared.refused.Refused.{Refused}
use Rattle.session.specs.declared.refused.Refused.TheVariants.{Peer, Picture, Sound, Event}

abbrev pub refused_number : Refused → ℕ
refused_number (Peer r) = refusal_number r
refused_number Picture = 5
refused_number Sound = 5
refused_number (Event at) = 4

-- lent memory is counted from the window as 0: inputs, states, picture; 6 is that for a sound
abbrev pub refused_place : Refused → ℕ
refused_place (Peer r) = refusal_place r
refused_place Picture = 3
refused_place Sound = 6
refused_place (Event at) = at

-- as people are told: "refused 4 at 6"
abbrev pub refused_text : Refused → List ℕ
refused_text f = codes "refused " ++ decimal (refused_number f) ++ codes " at " ++ decimal (refused_place f)

-- what is said of a new session: first what the peer refuses, then the picture
abbrev pub said_begun : Result (Unit {0}) Refusal → ℕ → Result (Unit {0}) Refused
said_begun (Ok u) picture = cond (nat_lt picture 19200) (Err Picture) (Ok tt)
said_begun (Err r) picture = Err (Peer r)

abbrev pub as_begun : Result numbers.Peer Refused → Result (Unit {0}) Refused
as_begun (Ok p) = Ok tt
as_begun (Err f) = Err f

-- what is said of drawing, by the window and the lengths of the lent states and of the lent picture
abbrev pub said_drawn : ℕ → ℕ → ℕ → Result (Unit {0}) Refused
said_drawn window states picture =
    cond (nat_lt states ((window + 1) * 64)) (Err (Peer States)) (cond (nat_lt picture 19200) (Err Picture) (Ok tt))

-- what is said of handing out a sound, by the window and the lengths of the lent states and of the
-- lent memory for it
abbrev pub said_handed : ℕ → ℕ → ℕ → Result (Unit {0}) Refused
said_handed window states sound =
    cond (nat_lt states ((window + 1) * 64)) (Err (Peer States))
    (cond (nat_lt sound 1600) (Err Sound) (Ok tt))
