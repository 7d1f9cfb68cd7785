use Rattle.std.proofs.Common.{◌≡◌, ℕ, List, true, cond, ◌++◌, Ok, Err, Result, is_ok, ap, ◌∙◌, append-nil, arith}
use Rattle.std.specs.Prelude.{OnOk}
use Rattle.session.proofs.Drawn.{handed_ok}
use Rattle.session.proofs.sounding.keep_shown.Goals as goal

-- of bytes that are kept whole or not at all
when_kept : {A E Q : Type 0} (r : Result A E) (zs more same : List ℕ) → zs ≡ cond (is_ok r) more same → (zs ≡ more → Q) → OnOk r Q
when_kept (Ok v) zs more same e f = f e
when_kept (Err e) zs more same is f = tt

pub unwrap-requires : goal.unwrap-requires
unwrap-requires c = handed_ok _ _ 1600 _ c.hand_out.ensures.answer c.requires (omega arith)

pub returns-clause-stands : goal.returns-clause-stands
returns-clause-stands c =
    let ok : is_ok c.hand_out.result ≡ true = handed_ok _ _ 1600 _ c.hand_out.ensures.answer c.requires (omega arith) in
    when_kept c.extend_from_slice.result _ _ _ c.extend_from_slice.ensures.items (λ is seat window log inputs a.
    is ∙ ap (λ zs. c.args.sounds.now.items ++ zs) (c.hand_out.ensures.stands seat window log inputs a ok ∙ append-nil _))
