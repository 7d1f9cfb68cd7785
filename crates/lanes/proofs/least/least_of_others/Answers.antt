use Rattle.std.proofs.Common.{sym, ap, ◌∙◌, ℕ, ◌≡◌, ◌+◌, ◌-◌, ◌++◌, List, length, min, take, drop, suc, add-one}
use Rattle.std.specs.Option.{unwrap_or}
use Rattle.std.specs.List.{reduce}
use Rattle.std.proofs.lemmas.List.{take_rest}
use Rattle.std.proofs.lemmas.Iterator.{YieldsList-from_slice}
use Rattle.std.proofs.lemmas.Iterator.Consumers.{YieldsList-from_copied, YieldsList-from_chain, min_from_yields_List}
use Rattle.std.proofs.lemmas.Iterator.Adapters.{option_map_id}
use Rattle.seats.specs.Peers.{least}
use Rattle.lanes.proofs.least.least_of_others.Goals as goal

pub returns : goal.returns
unfolding least
returns c =
    let xs : List ℕ = c.args.numbers.now in
    let at : ℕ = c.args.seat in
    let behind : List ℕ = take (length xs - (at + 1)) (drop (at + 1) xs) in
    let e : behind ≡ drop (suc at) xs = take_rest xs (at + 1) ∙ ap (λ n. drop n xs) (add-one at) in
    c.unwrap_or.ensures
    ∙ ap (λ o. unwrap_or o 0)
    (sym (option_map_id c.min.result)
    ∙ min_from_yields_List _ c.min.result c.min.ensures.ran (YieldsList-from_copied (YieldsList-from_chain (YieldsList-from_slice (take at xs) (cc)) (YieldsList-from_slice behind (cc)) (cc) (cc)))
    ∙ ap (λ ys. reduce min (take at xs ++ ys)) e)
