use Rattle.std.proofs.Common.{◌≡◌, ℕ, List, ◌++◌, length, replicate, sym, refl, ap, ◌∙◌, arith, rules}
use Rattle.byte_numbers.specs.Little.{little, overwritten}
use Rattle.byte_numbers.proofs.Places.{put_is, put_both, put_all}
use Rattle.rollback_tests.proofs.trail.TrailSavedGame.save.Goals as goal

pub returns : goal.returns
returns c =
    let xs = c.args.part.now in
    let four = little 4 c.args.self.0 in
    let zeros : List ℕ = replicate 60 0 in
    let long : length c.fill.new.self ≡ 60 = search rules in
    let filled : c.fill.new.self ≡ zeros = c.fill.ensures.after (λ y e. e) ∙ ap (λ n. replicate n 0) (sym c.fill.ensures.len ∙ long) in
    put_is 4 60 c.put.new.bytes c.fill.new.self zeros filled refl
    ∙ ap (λ zs. overwritten zs 4 zeros) c.put.ensures
    ∙ put_both xs four zeros 0 4 refl (omega arith)
    ∙ put_all xs (four ++ zeros) (omega arith)
