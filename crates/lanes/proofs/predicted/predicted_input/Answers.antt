use Rattle.std.proofs.Common.{◌≡◌, ℕ, ◌-◌, List, length, get_or, min, None, Some, Option, Bor, sym, refl, ap, ◌∙◌, inl, inr, arith}
use Rattle.std.proofs.lemmas.List.{get_or_past, get_or_default}
use Rattle.std.specs.Option.{unwrap_or, option_or, option_copied}
use Rattle.std.proofs.lemmas.Bool.{cases_lt}
use Rattle.std.proofs.lemmas.Option.{unwrap_or-slice_get}
use Rattle.seats.specs.Peers.{predicted_input}
use Rattle.seats.proofs.OnePeer.{predicted_came}
use Rattle.lanes.proofs.predicted.predicted_input.Goals as goal

-- the one, else the other
picked : (o o' : Option (Bor ℕ)) → unwrap_or (option_copied (option_or o o')) 0 ≡ unwrap_or (option_copied o) (unwrap_or (option_copied o') 0)
picked (Some x) o' = refl
picked None o' = refl

predicted_is : (ys : List ℕ) (k : ℕ) → get_or ys k (get_or ys (length ys - 1) 0) ≡ predicted_input ys k
predicted_is ys k =
    elim (cases_lt k (length ys)) [
      | inl lt ↦ get_or_default ys k (get_or ys (length ys - 1) 0) 0 lt ∙ sym (predicted_came ys k lt)
      | inr ge ↦
          let e : length ys - 1 ≡ min k (length ys - 1) = omega arith in
          get_or_past ys k (get_or ys (length ys - 1) 0) ge ∙ ap (λ n. get_or ys n 0) e
    ]

pub returns : goal.returns
returns c =
    let ys = c.args.row.now in
    let last = ap (λ o. unwrap_or o 0) c.last.ensures.value ∙ unwrap_or-slice_get ys (length ys - 1) 0 in
    c.unwrap_or.ensures
    ∙ ap (λ o. unwrap_or o 0) (c.copied.ensures ∙ ap option_copied c.or.ensures)
    ∙ picked c.get.result c.last.result
    ∙ c.get.ensures.lookup.4 (omega arith) _
    ∙ ap (get_or ys c.args.frame) last
    ∙ predicted_is ys c.args.frame
