use Rattle.std.proofs.Common.{◌≡◌, ℕ, List, [], ◌∷◌, ◌++◌, length, get_or, replicate, sym, refl, ap, ◌∙◌, arith, rules}
use borrow.Rule.Slice.PartMut.{put_mid}
use Rattle.byte_numbers.specs.Little.{overwritten}
use Rattle.byte_numbers.proofs.Places.{put_is, put_both, put_all}
use Rattle.court_game.specs.Held.{sounding_court}
use Rattle.court_game.specs.Snapshots.{ball_bytes, paddle_bytes, small_bytes}
use Rattle.court_game.proofs.snapshot.save_state.Goals as goal

pub returns : goal.returns
returns c =
    let xs = c.args.part.now in
    let s = c.args.game.court.state in
    let b = ball_bytes s.ball in
    let l = paddle_bytes s.left in
    let r = paddle_bytes s.right in
    let small : List ℕ = small_bytes (sounding_court c.args.game) in
    let zeros : List ℕ = replicate 27 0 in
    let d2 : c.put_paddle.new.part ≡ overwritten xs 0 (b ++ l) = c.put_paddle.ensures ∙ ap (λ zs. overwritten zs 16 l) c.put_ball.ensures ∙ put_both xs b l 0 16 refl (omega arith) in
    let d3 : c.put_paddle-2.new.part ≡ overwritten xs 0 (b ++ l ++ r) = c.put_paddle-2.ensures ∙ ap (λ zs. overwritten zs 24 r) d2 ∙ put_both xs (b ++ l) r 0 24 refl (omega arith) in
    let d4 : put_mid 32 5 c.put_paddle-2.new.part c.copy_from_slice.new.self ≡ overwritten xs 0 (b ++ l ++ r ++ small) =
    put_is 32 5 c.put_paddle-2.new.part c.copy_from_slice.new.self small (c.copy_from_slice.ensures.after ∙ ap (λ zs. s.score.left ∷ (s.score.right ∷ (s.wait ∷ (get_or zs 0 0 ∷ (get_or zs 1 0 ∷ []))))) c.to_bytes.ensures) refl
    ∙ ap (λ zs. overwritten zs 32 small) d3
    ∙ put_both xs (b ++ l ++ r) small 0 32 refl (omega arith) in
    let long : length c.fill.new.self ≡ 27 = search rules in
    let filled : c.fill.new.self ≡ zeros = c.fill.ensures.after (λ y e. e) ∙ ap (λ n. replicate n 0) (sym c.fill.ensures.len ∙ long) in
    put_is 37 27 (put_mid 32 5 c.put_paddle-2.new.part c.copy_from_slice.new.self) c.fill.new.self zeros filled refl
    ∙ ap (λ zs. overwritten zs 37 zeros) d4
    ∙ put_both xs (b ++ l ++ r ++ small) zeros 0 37 refl (omega arith)
    ∙ put_all xs (b ++ l ++ r ++ small ++ zeros) (omega arith)
