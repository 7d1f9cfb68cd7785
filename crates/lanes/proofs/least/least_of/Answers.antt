use Rattle.std.proofs.Common.{sym, ap, ◌∙◌}
use Rattle.std.specs.Option.{unwrap_or}
use Rattle.std.proofs.lemmas.Iterator.{YieldsList-from_slice}
use Rattle.std.proofs.lemmas.Iterator.Consumers.{YieldsList-from_copied, min_from_yields_List}
use Rattle.std.proofs.lemmas.Iterator.Adapters.{option_map_id}
use Rattle.seats.specs.Peers.{least}
use Rattle.lanes.proofs.least.least_of.Goals as goal

pub returns : goal.returns
unfolding least
returns c =
    c.unwrap_or.ensures
    ∙ ap (λ o. unwrap_or o 0) (sym (option_map_id c.min.result) ∙ min_from_yields_List _ c.min.result c.min.ensures.ran (YieldsList-from_copied (YieldsList-from_slice c.args.numbers.now cc)))
