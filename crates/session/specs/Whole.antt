-- A session over a whole file of events. Assumes nothing: these are definitions.
use Rattle.std.specs.Prelude.{◌≡◌, ℕ, List, Ok, Err, Result, MatchResult}
use Rattle.peer.specs.Peers.{Event}
use Rattle.peer.specs.declared.numbers.Peer.{Peer}
use Rattle.session.specs.declared.refused.Refused.{Refused}
use Rattle.session.specs.declared.refused.Refused.TheVariants as refused
use Rattle.session.specs.Files.{FileOf, FaultyAt}

-- what a session is refused for: first what does not let it begin, then its file
abbrev pub Answered : Result (Unit {0}) Refused → List ℕ → Result Peer Refused → Type 0
Answered (Err f) file r = r ≡ Err f
Answered (Ok u) file r =
    MatchResult r (λ p. (es : List Event) × FileOf es file) (λ f. (at : ℕ) × (f ≡ refused.Event at) × FaultyAt file at)
