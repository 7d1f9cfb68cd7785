-- What drawing and handing out say and leave, by the length of the lent memory. Assumes nothing.
use Rattle.std.proofs.Common.{◌≡◌, ℕ, ◌+◌, ◌*◌, is_ok, ◌≤◌, Bool, true, false, cond, List, ◌++◌, drop, Ok, Err, Result, refl, arith}
use Rattle.std.proofs.lemmas.List.{drop_at}
use Rattle.std.proofs.lemmas.Bool.Decides.{nat_tests}
use Rattle.court.specs.declared.state.State.{State}
use Rattle.picture.specs.Picture.{picture_of}
use Rattle.picture.proofs.Rows.{length_rows}
use Rattle.peer.specs.Refusals.{begin_checked}
use Rattle.session.specs.declared.refused.Refused.{Refused}
use Rattle.session.specs.Refusals.{said_begun, said_drawn, said_handed}
use Rattle.sound.specs.Sound.{sound_bytes}
use Rattle.sound.specs.Tones.{Sounding}
use Rattle.sound.proofs.Writes.{whole}

-- a session that begins has memory enough
pub enough : (window inputs states picture : ℕ) → ◌≡◌ {A = Result (Unit {0}) Refused} (Ok tt) (said_begun (begin_checked window inputs states) picture) → (2000000 ≤ inputs) × (19200 ≤ picture)
unfolding begin_checked
enough window inputs states picture e = (grind (arith, nat_tests), grind (arith, nat_tests))

-- and a picture is drawn where there is
pub drawn_ok : (window states picture : ℕ) (r : Result (Unit {0}) Refused) → r ≡ said_drawn window states picture → (window + 1) * 64 ≤ states → 19200 ≤ picture → is_ok r ≡ true
drawn_ok window states picture r is long room = grind (arith, nat_tests)

-- what lies behind a picture stays, whether it was drawn or not
pub drawn_behind : (s : State) (pic : List ℕ) (drawn : Bool) → drop 19200 (cond drawn (picture_of s ++ drop 19200 pic) pic) ≡ drop 19200 pic
unfolding picture_of
drawn_behind s pic true = drop_at (picture_of s) (drop 19200 pic) 19200 (length_rows s 0 120)
drawn_behind s pic false = refl

-- where a call that writes over lent memory takes it, that is what is written
pub when_taken : {E A : Type 0} (enough : Bool) (u : Unit {0}) (e : E) (over same written : A) → ◌≡◌ {A = Result (Unit {0}) E} (Ok u) (cond enough (Ok tt) (Err e)) → written ≡ cond enough over same → written ≡ over
when_taken true u e over same written taken is = is
when_taken false u e over same written taken is = cc

-- a sound is handed out where there is
pub handed_ok : (window states sound : ℕ) (r : Result (Unit {0}) Refused) → r ≡ said_handed window states sound → (window + 1) * 64 ≤ states → 1600 ≤ sound → is_ok r ≡ true
handed_ok window states sound r is long room = grind (arith, nat_tests)

-- what lies behind a sound stays, whether it was handed out or not
pub handed_behind : (t : Sounding) (xs : List ℕ) (handed : Bool) → drop 1600 (cond handed (sound_bytes t ++ drop 1600 xs) xs) ≡ drop 1600 xs
handed_behind t xs true = drop_at (sound_bytes t) (drop 1600 xs) 1600 (whole t).1
handed_behind t xs false = refl
