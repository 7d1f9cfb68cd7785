-- No ball passes through a paddle in a frame. Assumes nothing.
use Rattle.std.specs.Prelude.{unsigned_abs}
use Rattle.std.proofs.Common.{◌≡◌, ℕ, zero, suc, ◌+◌, ◌<◌, ◌⊎◌, inl, inr, Bool, true, false, ◌&&◌, ◌||◌, eqb, List, [], ◌∷◌, ◌++◌, append-nil, ℤ, pos, negsuc, ◌+ℤ◌, ◌-ℤ◌, neg_ℤ, ◌≤ℤ◌, refl, add-one, arith}
use borrow.Author.Tests.{eqb-true}
use lib.Signed.{lt_z, ◌<ℤ◌}
use Rattle.std.proofs.lemmas.Int.{ints, clamps}
use Rattle.court.specs.declared.state.Ball.{Ball}
use Rattle.court.specs.declared.state.Paddle.{Paddle}
use Rattle.court.specs.declared.state.Side.{Side}
use Rattle.court.specs.declared.state.Side.TheVariants.{Left, Right}
use Rattle.court.specs.declared.state.State.{State}
use Rattle.court.specs.Frame.{size, between, stepped, bit, step_count, step_length, along, ball_moved, step_moved, after_steps, meets, quickened, struck, sent_back, both_at_once, in_goal, end_met, ends_met, with_ball, turned, paddle_moved, paddles_moved, ball_played_by, over, waited, advanced, advanced_by, start}
use Rattle.court.specs.Bounds.{Within, PaddleIn, InHalf, InCourt}
use Rattle.court.specs.Passing.{Moment, untouched, step_moment, step_moments, past_end, end_moments, frame_moments, BetweenEnds, ChangesSide, NonePassed, NonePassedAlong, IsMomentOf, last_moment, StepsAreShort, FastBallIsSentBack}
use Rattle.court.proofs.Steps.{steps_some, step_short_x, step_short_y, along_in}
use Rattle.court.proofs.Stays.{paddles_in}

pub steps_are_short : StepsAreShort
steps_are_short = record { x = step_short_x; y = step_short_y; both = omega (arith, ints) }

-- ---- where a ball is safe from passing through a paddle

-- a paddle in the half of its side, by its x
abbrev InHalfX : Side → ℤ → Type 0
InHalfX Left a = Within (pos 512) (pos 19968) a
InHalfX Right a = Within (pos 20992) (pos 40448) a

abbrev IsShort : ℤ → Type 0
IsShort a = Within (neg_ℤ (pos 512)) (pos 512) a

-- farther in than the paddle on a side ever comes
abbrev pub IsInside : Side → ℤ → Type 0
IsInside Left x = pos 19968 <ℤ x
IsInside Right x = x <ℤ pos 20992

-- as far in as the paddle on a side comes, or farther, and not on its way farther in
abbrev pub ComesFromInside : Side → Ball → Type 0
ComesFromInside Left b = (pos 19968 ≤ℤ b.x) × (b.dx ≤ℤ pos 0)
ComesFromInside Right b = (b.x ≤ℤ pos 20992) × (pos 0 ≤ℤ b.dx)

-- at the end on a side, and not on its way out of the court
abbrev pub ComesFromEnd : Side → Ball → Type 0
ComesFromEnd Left b = (b.x ≡ pos 512) × (pos 0 ≤ℤ b.dx)
ComesFromEnd Right b = (b.x ≡ pos 40448) × (b.dx ≤ℤ pos 0)

-- a ball that will not pass through the paddle on a side: it is so far from it in x or in y, or where and as the others say
pub data IsSafe (far_x far_y : ℤ) (side : Side) (b : Ball) (p : Paddle) : Type 0 where
  x_far : far_x ≤ℤ size (b.x -ℤ p.x) → IsSafe far_x far_y side b p
  y_far : far_y ≤ℤ size (b.y -ℤ p.y) → IsSafe far_x far_y side b p
  inside : IsInside side b.x → IsSafe far_x far_y side b p
  from_inside : ComesFromInside side b → IsSafe far_x far_y side b p
  from_end : ComesFromEnd side b → IsSafe far_x far_y side b p

-- as far as a paddle that does not meet it, and less far by the paddle's move in a frame
abbrev pub IsSafeBefore : Side → Ball → Paddle → Type 0
IsSafeBefore = IsSafe (pos 1024) (pos 2560)

abbrev pub IsSafeStill : Side → Ball → Paddle → Type 0
IsSafeStill = IsSafe (pos 512) (pos 2048)

-- how far a ball goes in a step, by its velocity
record IsStep (v by : ℤ) : Type 0 where
  short : Within (neg_ℤ (pos 768)) (pos 768) by
  forth : pos 0 ≤ℤ v → pos 0 ≤ℤ by
  back : v ≤ℤ pos 0 → by ≤ℤ pos 0

safe_passes_not : (side : Side) (b : Ball) (p : Paddle) (c : Ball) (q : Paddle) → InHalfX side p.x → InHalfX side q.x →
    IsShort (q.x -ℤ p.x) → IsStep b.dx (c.x -ℤ b.x) → IsSafeStill side b p → BetweenEnds b p → pos 1024 ≤ℤ size (c.x -ℤ q.x) →
    ChangesSide b p c q → ⊥
safe_passes_not side b p c q j k n m (x_far h) y i (inl e) = omega (arith, ints, m.short)
safe_passes_not side b p c q j k n m (x_far h) y i (inr e) = omega (arith, ints, m.short)
safe_passes_not side b p c q j k n m (y_far h) y i e = omega (arith, ints)
safe_passes_not Left b p c q j k n m (inside h) y i (inl e) = omega (arith, ints)
safe_passes_not Left b p c q j k n m (inside h) y i (inr e) = omega (arith, ints, m.short)
safe_passes_not Left b p c q j k n m (from_inside h) y i (inl e) = omega (arith, ints, m.back h.1)
safe_passes_not Left b p c q j k n m (from_inside h) y i (inr e) = omega (arith, ints, m.short)
safe_passes_not Left b p c q j k n m (from_end h) y i (inl e) = omega (arith, ints, m.short)
safe_passes_not Left b p c q j k n m (from_end h) y i (inr e) = omega (arith, ints, m.forth h.1)
safe_passes_not Right b p c q j k n m (inside h) y i (inl e) = omega (arith, ints, m.short)
safe_passes_not Right b p c q j k n m (inside h) y i (inr e) = omega (arith, ints)
safe_passes_not Right b p c q j k n m (from_inside h) y i (inl e) = omega (arith, ints, m.short)
safe_passes_not Right b p c q j k n m (from_inside h) y i (inr e) = omega (arith, ints, m.forth h.1)
safe_passes_not Right b p c q j k n m (from_end h) y i (inl e) = omega (arith, ints, m.back h.1)
safe_passes_not Right b p c q j k n m (from_end h) y i (inr e) = omega (arith, ints, m.short)

-- a paddle that does not meet the ball is far from it in x or in y
unmet_by : (b : Ball) (p : Paddle) (t u : Bool) → lt_z (size (b.x -ℤ p.x)) (pos 1024) ≡ t → lt_z (size (b.y -ℤ p.y)) (pos 2560) ≡ u →
    (t && u) ≡ false → (pos 1024 ≤ℤ size (b.x -ℤ p.x)) ⊎ (pos 2560 ≤ℤ size (b.y -ℤ p.y))
unmet_by b p false u e f h = inl (grind (arith, ints))
unmet_by b p true false e f h = inr (grind (arith, ints))
unmet_by b p true true e f h = absurd (cc)

unmet_far : (b : Ball) (p : Paddle) → meets b p ≡ false → (pos 1024 ≤ℤ size (b.x -ℤ p.x)) ⊎ (pos 2560 ≤ℤ size (b.y -ℤ p.y))
unmet_far b p h = unmet_by b p (lt_z (size (b.x -ℤ p.x)) (pos 1024)) (lt_z (size (b.y -ℤ p.y)) (pos 2560)) refl refl h

-- between its ends it is so in x
far_in_x : (b : Ball) (p : Paddle) → meets b p ≡ false → BetweenEnds b p → pos 1024 ≤ℤ size (b.x -ℤ p.x)
far_in_x b p h i = elim (unmet_far b p h) [ inl e ↦ e | inr e ↦ absurd (omega (arith, ints)) ]

unmet_safe : (side : Side) (b : Ball) (p : Paddle) → meets b p ≡ false → IsSafeBefore side b p
unmet_safe side b p h = elim (unmet_far b p h) [ inl e ↦ x_far e | inr e ↦ y_far e ]

-- one that meets it is near it in x
met_by : (b : Ball) (p : Paddle) (t u : Bool) → lt_z (size (b.x -ℤ p.x)) (pos 1024) ≡ t → lt_z (size (b.y -ℤ p.y)) (pos 2560) ≡ u →
    (t && u) ≡ true → size (b.x -ℤ p.x) <ℤ pos 1024
met_by b p false u e f h = absurd (cc)
met_by b p true u e f h = grind (arith, ints)

met_near : (b : Ball) (p : Paddle) → meets b p ≡ true → size (b.x -ℤ p.x) <ℤ pos 1024
met_near b p h = met_by b p (lt_z (size (b.x -ℤ p.x)) (pos 1024)) (lt_z (size (b.y -ℤ p.y)) (pos 2560)) refl refl h

-- ---- a step

-- a moment after which the ball passes through no paddle. Where both paddles turned it round, it goes away from where they met it,
-- which is between all places of both
pub data IsClear (m : Moment) : Type 0 where
  safe : IsSafeBefore Left m.ball m.left → IsSafeBefore Right m.ball m.right → IsClear m
  turned_round : IsSafeStill Left m.ball m.left → IsSafeStill Right m.ball m.right →
      (pos 0 ≤ℤ m.ball.dx → pos 19968 <ℤ m.ball.x) → (m.ball.dx ≤ℤ pos 0 → m.ball.x <ℤ pos 20992) → IsClear m

still : (side : Side) (b : Ball) (p : Paddle) → IsSafeBefore side b p → IsSafeStill side b p
still side b p (x_far h) = x_far (omega (arith, ints))
still side b p (y_far h) = y_far (omega (arith, ints))
still side b p (inside h) = inside h
still side b p (from_inside h) = from_inside h
still side b p (from_end h) = from_end h

clear_left : (m : Moment) → IsClear m → IsSafeStill Left m.ball m.left
clear_left m (safe h i) = still Left m.ball m.left h
clear_left m (turned_round h i j k) = h

clear_right : (m : Moment) → IsClear m → IsSafeStill Right m.ball m.right
clear_right m (safe h i) = still Right m.ball m.right i
clear_right m (turned_round h i j k) = i

-- how far a paddle goes
record IsNear (p q : Paddle) : Type 0 where
  x : IsShort (q.x -ℤ p.x)
  y : IsShort (q.y -ℤ p.y)

-- a moment that can come before the step behind k others, of a state whose paddles have moved in this frame
record Leads (s : State) (k : ℕ) (m : Moment) : Type 0 where
  ball : m.ball ≡ after_steps both_at_once s.left s.right s.ball k
  left_in : InHalfX Left m.left.x
  right_in : InHalfX Right m.right.x
  left_near : IsNear m.left s.left
  right_near : IsNear m.right s.right
  clear : IsClear m

moved_x_by : (by_x by_y : ℤ) (b : Ball) (t u : Bool) → lt_z (b.y +ℤ by_y) (pos 512) ≡ t → lt_z (pos 30208) (b.y +ℤ by_y) ≡ u → (ball_moved by_x by_y b).x ≡ b.x +ℤ by_x
unfolding ball_moved
moved_x_by by_x by_y b true u e f = simp e refl
moved_x_by by_x by_y b false true e f = simp (e, f) refl
moved_x_by by_x by_y b false false e f = simp (e, f) refl

-- the ball's x after step 3
moved_x_is : (by_x by_y : ℤ) (b : Ball) → (ball_moved by_x by_y b).x ≡ b.x +ℤ by_x
moved_x_is by_x by_y b = moved_x_by by_x by_y b (lt_z (b.y +ℤ by_y) (pos 512)) (lt_z (pos 30208) (b.y +ℤ by_y)) refl refl

-- the ball before the step behind k others, and as step 3 leaves it
abbrev before_step : State → ℕ → Ball
before_step s k = after_steps both_at_once s.left s.right s.ball k

abbrev moved_in_step : State → ℕ → Ball
moved_in_step s k = step_moved s.ball k (before_step s k)

-- a ball that no paddle meets lies where step 3 left it
unmet_ball : (s : State) (k : ℕ) → meets (moved_in_step s k) s.left ≡ false → meets (moved_in_step s k) s.right ≡ false →
    after_steps both_at_once s.left s.right s.ball (k + 1) ≡ moved_in_step s k
unfolding after_steps both_at_once
unmet_ball s k e f = rw add-one (simp (e, f) refl)

-- where it lies once the left paddle alone met it, the right one alone, or both
left_ball : (s : State) (k : ℕ) → meets (moved_in_step s k) s.left ≡ true → meets (moved_in_step s k) s.right ≡ false →
    after_steps both_at_once s.left s.right s.ball (k + 1) ≡ struck Left s.left (moved_in_step s k)
unfolding after_steps both_at_once
left_ball s k e f = rw add-one (simp (e, f) refl)

right_ball : (s : State) (k : ℕ) → meets (moved_in_step s k) s.left ≡ false → meets (moved_in_step s k) s.right ≡ true →
    after_steps both_at_once s.left s.right s.ball (k + 1) ≡ struck Right s.right (moved_in_step s k)
unfolding after_steps both_at_once
right_ball s k e f = rw add-one (simp (e, f) refl)

both_ball : (s : State) (k : ℕ) → meets (moved_in_step s k) s.left ≡ true → meets (moved_in_step s k) s.right ≡ true →
    after_steps both_at_once s.left s.right s.ball (k + 1) ≡ sent_back (before_step s k) (moved_in_step s k)
unfolding after_steps both_at_once
both_ball s k e f = rw add-one (simp (e, f) refl)

-- a length goes the way of the velocity
forth_by : (v : ℤ) (d : ℕ) (t u : Bool) → lt_z v (pos 0) ≡ t → lt_z (pos 0) v ≡ u → pos 0 ≤ℤ v → pos 0 ≤ℤ along v d
unfolding along
forth_by v d true u e f h = absurd (grind (arith, ints))
forth_by v d false true e f h = simp (e, f) (omega (arith, ints))
forth_by v d false false e f h = simp (e, f) (omega (arith, ints))

along_forth : (v : ℤ) (d : ℕ) → pos 0 ≤ℤ v → pos 0 ≤ℤ along v d
along_forth v d h = forth_by v d (lt_z v (pos 0)) (lt_z (pos 0) v) refl refl h

back_by : (v : ℤ) (d : ℕ) (t u : Bool) → lt_z v (pos 0) ≡ t → lt_z (pos 0) v ≡ u → v ≤ℤ pos 0 → along v d ≤ℤ pos 0
unfolding along
back_by v d true u e f h = simp e (omega (arith, ints))
back_by v d false true e f h = absurd (grind (arith, ints))
back_by v d false false e f h = simp (e, f) (omega (arith, ints))

along_back : (v : ℤ) (d : ℕ) → v ≤ℤ pos 0 → along v d ≤ℤ pos 0
along_back v d h = back_by v d (lt_z v (pos 0)) (lt_z (pos 0) v) refl refl h

-- how far the ball goes in a step
step_by : (first : Ball) (i : ℕ) (v : ℤ) → IsStep v (along v (step_length (unsigned_abs first.dx) (step_count first) i))
step_by first i v =
    let d : ℕ = step_length (unsigned_abs first.dx) (step_count first) i in
    record { short = along_in v d 768 (step_short_x first i); forth = along_forth v d; back = along_back v d }

back_again : (x y : ℤ) → (x +ℤ y) -ℤ x ≡ y
back_again x y = omega (arith, ints)

-- the ball between a moment and step 3 of the step after it
moves_by : (s : State) (k : ℕ) (m : Moment) → Leads s k m → IsStep m.ball.dx ((moved_in_step s k).x -ℤ m.ball.x)
moves_by s k m h =
    let b : Ball = before_step s k in
    let by : ℤ = along b.dx (step_length (unsigned_abs s.ball.dx) (step_count s.ball) k) in
    rw (h.ball, moved_x_is by (along b.dy (step_length (unsigned_abs s.ball.dy) (step_count s.ball) k)) b, back_again b.x by) (step_by s.ball k b.dx)

-- a paddle that does not meet the ball as step 3 leaves it
left_unmet : (s : State) (k : ℕ) (m : Moment) → InHalf Left s.left → Leads s k m → meets (moved_in_step s k) s.left ≡ false →
    ChangesSide m.ball m.left (moved_in_step s k) s.left → BetweenEnds m.ball m.left → BetweenEnds (moved_in_step s k) s.left → ⊥
left_unmet s k m l h f x y z =
    let moved : Ball = moved_in_step s k in
    safe_passes_not Left m.ball m.left moved s.left h.left_in l.x h.left_near.x (moves_by s k m h) (clear_left m h.clear) y (far_in_x moved s.left f z) x

right_unmet : (s : State) (k : ℕ) (m : Moment) → InHalf Right s.right → Leads s k m → meets (moved_in_step s k) s.right ≡ false →
    ChangesSide m.ball m.right (moved_in_step s k) s.right → BetweenEnds m.ball m.right → BetweenEnds (moved_in_step s k) s.right → ⊥
right_unmet s k m r h f x y z =
    let moved : Ball = moved_in_step s k in
    safe_passes_not Right m.ball m.right moved s.right h.right_in r.x h.right_near.x (moves_by s k m h) (clear_right m h.clear) y (far_in_x moved s.right f z) x

-- a ball that one paddle sends to the other side of the other one was there before it was struck
left_changes : (b moved : Ball) (p l r : Paddle) → InHalf Left l → InHalf Right r → meets moved r ≡ true →
    ChangesSide b p (struck Right r moved) l → ChangesSide b p moved l
left_changes b moved p l r i j h (inl e) =
    let near : size (moved.x -ℤ r.x) <ℤ pos 1024 = met_near moved r h in
    let a : Within (pos 512) (pos 19968) l.x = i.x in
    let c : Within (pos 20992) (pos 40448) r.x = j.x in
    inl (e.0, omega (arith, ints))
left_changes b moved p l r i j h (inr e) =
    let a : Within (pos 512) (pos 19968) l.x = i.x in
    let c : Within (pos 20992) (pos 40448) r.x = j.x in
    absurd (omega (arith, ints))

right_changes : (b moved : Ball) (p l r : Paddle) → InHalf Left l → InHalf Right r → meets moved l ≡ true →
    ChangesSide b p (struck Left l moved) r → ChangesSide b p moved r
right_changes b moved p l r i j h (inl e) =
    let a : Within (pos 512) (pos 19968) l.x = i.x in
    let c : Within (pos 20992) (pos 40448) r.x = j.x in
    absurd (omega (arith, ints))
right_changes b moved p l r i j h (inr e) =
    let near : size (moved.x -ℤ l.x) <ℤ pos 1024 = met_near moved l h in
    let a : Within (pos 512) (pos 19968) l.x = i.x in
    let c : Within (pos 20992) (pos 40448) r.x = j.x in
    inr (e.0, omega (arith, ints))

-- by which paddles meet it
step_passes_by : (s : State) (k : ℕ) (m : Moment) → InHalf Left s.left → InHalf Right s.right → Leads s k m → (u v : Bool) →
    meets (moved_in_step s k) s.left ≡ u → meets (moved_in_step s k) s.right ≡ v → NonePassed m (step_moment s k)
step_passes_by s k m l r h true true f g = (λ x y z. rw f refl, λ x y z. rw g refl)
step_passes_by s k m l r h true false f g =
    let there : after_steps both_at_once s.left s.right s.ball (k + 1) ≡ struck Left s.left (moved_in_step s k) = left_ball s k f g in (
      λ x y z. rw f refl,
      λ x y z. absurd (right_unmet s k m r h g
          (right_changes m.ball (moved_in_step s k) m.right s.left s.right l r f (rw there at x)) y (rw there at z)),
    )
step_passes_by s k m l r h false true f g =
    let there : after_steps both_at_once s.left s.right s.ball (k + 1) ≡ struck Right s.right (moved_in_step s k) = right_ball s k f g in (
      λ x y z. absurd (left_unmet s k m l h f
          (left_changes m.ball (moved_in_step s k) m.left s.left s.right l r g (rw there at x)) y (rw there at z)),
      λ x y z. rw g refl,
    )
step_passes_by s k m l r h false false f g =
    let there : after_steps both_at_once s.left s.right s.ball (k + 1) ≡ moved_in_step s k = unmet_ball s k f g in (
      λ x y z. absurd (left_unmet s k m l h f (rw there at x) y (rw there at z)),
      λ x y z. absurd (right_unmet s k m r h g (rw there at x) y (rw there at z)),
    )

step_passes_not : (s : State) (k : ℕ) (m : Moment) → InHalf Left s.left → InHalf Right s.right → Leads s k m → NonePassed m (step_moment s k)
step_passes_not s k m l r h =
    step_passes_by s k m l r h (meets (moved_in_step s k) s.left) (meets (moved_in_step s k) s.right) refl refl

-- ---- the moment after a step is clear

quickened_positive : (a : ℤ) → pos 0 ≤ℤ quickened a
quickened_positive a = omega (arith, ints, clamps)

-- a ball that a paddle strikes
left_struck_clear : (l r : Paddle) (b : Ball) → InHalf Left l → InHalf Right r →
    IsSafeBefore Left (struck Left l b) l × IsSafeBefore Right (struck Left l b) r
left_struck_clear l r b i j =
    let a : Within (pos 512) (pos 19968) l.x = i.x in
    (x_far (omega (arith, ints)), from_inside (omega (arith, ints), quickened_positive b.dx))

right_struck_clear : (l r : Paddle) (b : Ball) → InHalf Left l → InHalf Right r →
    IsSafeBefore Left (struck Right r b) l × IsSafeBefore Right (struck Right r b) r
right_struck_clear l r b i j =
    let a : Within (pos 20992) (pos 40448) r.x = j.x in
    let p : pos 0 ≤ℤ quickened b.dx = quickened_positive b.dx in
    (from_inside (omega (arith, ints), omega (arith, ints)), x_far (omega (arith, ints)))

-- where both paddles meet the ball, it is between all places of both
record IsBetween (x : ℤ) : Type 0 where
  left : pos 19968 <ℤ x
  right : x <ℤ pos 20992

met_between : (b : Ball) (l r : Paddle) → InHalf Left l → InHalf Right r → meets b l ≡ true → meets b r ≡ true → IsBetween b.x
met_between b l r i j e f =
    let a : Within (pos 512) (pos 19968) l.x = i.x in
    let c : Within (pos 20992) (pos 40448) r.x = j.x in
    let g : size (b.x -ℤ l.x) <ℤ pos 1024 = met_near b l e in
    let h : size (b.x -ℤ r.x) <ℤ pos 1024 = met_near b r f in
    record { left = omega (arith, ints); right = omega (arith, ints) }

-- a ball that was safe before a paddle's move and a step to x: it still is, whichever way it goes from where it was
turned_safe : (side : Side) (b c : Ball) (p q : Paddle) (x : ℤ) → c.x ≡ b.x → c.y ≡ b.y → IsNear p q → IsStep b.dx (x -ℤ b.x) → IsBetween x →
    IsSafeBefore side b p → IsSafeStill side c q
turned_safe side b c p q x e f n m i (x_far h) = let a : IsShort (q.x -ℤ p.x) = n.x in x_far (omega (arith, ints))
turned_safe side b c p q x e f n m i (y_far h) = let a : IsShort (q.y -ℤ p.y) = n.y in y_far (omega (arith, ints))
turned_safe side b c p q x e f n m i (inside h) = inside (rw e h)
turned_safe Left b c p q x e f n m i (from_inside h) = inside (omega (arith, ints, m.back h.1, i.left))
turned_safe Right b c p q x e f n m i (from_inside h) = inside (omega (arith, ints, m.forth h.1, i.right))
turned_safe Left b c p q x e f n m i (from_end h) = absurd (omega (arith, ints, m.short, i.left))
turned_safe Right b c p q x e f n m i (from_end h) = absurd (omega (arith, ints, m.short, i.right))

int_sides : (a : ℤ) → (pos 0 ≤ℤ a) ⊎ (a ≤ℤ pos 0)
int_sides (pos n) = inl (omega (arith, ints))
int_sides (negsuc n) = inr (omega (arith, ints))

-- a ball that both turn round
both_safe : (m : Moment) (l r : Paddle) (c : Ball) (x : ℤ) → c.x ≡ m.ball.x → c.y ≡ m.ball.y → IsNear m.left l → IsNear m.right r →
    IsStep m.ball.dx (x -ℤ m.ball.x) → IsBetween x → IsClear m → IsSafeStill Left c l × IsSafeStill Right c r
both_safe m l r c x e f p q h i (safe j k) =
    (turned_safe Left m.ball c m.left l x e f p h i j, turned_safe Right m.ball c m.right r x e f q h i k)
both_safe m l r c x e f p q h i (turned_round j k t u) =
    elim (int_sides m.ball.dx) [
      | inl g ↦ (inside (rw e (t g)), inside (omega (arith, ints, h.forth g, i.right)))
      | inr g ↦ (inside (omega (arith, ints, h.back g, i.left)), inside (rw e (u g)))
    ]

moved_dx_by : (by_dx by_dy : ℤ) (b : Ball) (t u : Bool) → lt_z (b.y +ℤ by_dy) (pos 512) ≡ t → lt_z (pos 30208) (b.y +ℤ by_dy) ≡ u →
    (ball_moved by_dx by_dy b).dx ≡ b.dx
unfolding ball_moved
moved_dx_by by_dx by_dy b true u e f = simp e refl
moved_dx_by by_dx by_dy b false true e f = simp (e, f) refl
moved_dx_by by_dx by_dy b false false e f = simp (e, f) refl

-- step 3 keeps the velocity in x
moved_dx_is : (by_dx by_dy : ℤ) (b : Ball) → (ball_moved by_dx by_dy b).dx ≡ b.dx
moved_dx_is by_dx by_dy b = moved_dx_by by_dx by_dy b (lt_z (b.y +ℤ by_dy) (pos 512)) (lt_z (pos 30208) (b.y +ℤ by_dy)) refl refl

both_clear : (s : State) (k : ℕ) (m : Moment) → InHalf Left s.left → InHalf Right s.right → Leads s k m →
    meets (moved_in_step s k) s.left ≡ true → meets (moved_in_step s k) s.right ≡ true → IsClear (step_moment s k)
both_clear s k m l r h f g =
    let n : Moment = step_moment s k in
    let moved : Ball = moved_in_step s k in
    let there : n.ball ≡ sent_back (before_step s k) moved = both_ball s k f g in
    let same_x : n.ball.x ≡ m.ball.x = rw (there, h.ball) refl in
    let same_y : n.ball.y ≡ m.ball.y = rw (there, h.ball) refl in
    let kept : moved.dx ≡ m.ball.dx = rw h.ball (moved_dx_is _ _ (before_step s k)) in
    let back : n.ball.dx ≡ neg_ℤ moved.dx = rw there refl in
    let by : IsStep m.ball.dx (moved.x -ℤ m.ball.x) = moves_by s k m h in
    let i : IsBetween moved.x = met_between moved s.left s.right l r f g in
    let both : IsSafeStill Left n.ball s.left × IsSafeStill Right n.ball s.right =
    both_safe m s.left s.right n.ball moved.x same_x same_y h.left_near h.right_near by i h.clear
    in
    turned_round both.0 both.1
    (λ d. let e : m.ball.dx ≤ℤ pos 0 = omega (arith, ints) in omega (arith, ints, by.back e, i.left))
    (λ d. let e : pos 0 ≤ℤ m.ball.dx = omega (arith, ints) in omega (arith, ints, by.forth e, i.right))

step_clear_by : (s : State) (k : ℕ) (m : Moment) → InHalf Left s.left → InHalf Right s.right → Leads s k m → (u v : Bool) →
    meets (moved_in_step s k) s.left ≡ u → meets (moved_in_step s k) s.right ≡ v → IsClear (step_moment s k)
step_clear_by s k m l r h true true f g = both_clear s k m l r h f g
step_clear_by s k m l r h true false f g =
    let both : IsSafeBefore Left (struck Left s.left (moved_in_step s k)) s.left × IsSafeBefore Right (struck Left s.left (moved_in_step s k)) s.right =
    left_struck_clear s.left s.right (moved_in_step s k) l r
    in
    safe (rw (left_ball s k f g) both.0) (rw (left_ball s k f g) both.1)
step_clear_by s k m l r h false true f g =
    let both : IsSafeBefore Left (struck Right s.right (moved_in_step s k)) s.left × IsSafeBefore Right (struck Right s.right (moved_in_step s k)) s.right =
    right_struck_clear s.left s.right (moved_in_step s k) l r
    in
    safe (rw (right_ball s k f g) both.0) (rw (right_ball s k f g) both.1)
step_clear_by s k m l r h false false f g =
    let moved : Ball = moved_in_step s k in
    safe (rw (unmet_ball s k f g) (unmet_safe Left moved s.left f)) (rw (unmet_ball s k f g) (unmet_safe Right moved s.right g))

step_clear : (s : State) (k : ℕ) (m : Moment) → InHalf Left s.left → InHalf Right s.right → Leads s k m → IsClear (step_moment s k)
step_clear s k m l r h = step_clear_by s k m l r h (meets (moved_in_step s k) s.left) (meets (moved_in_step s k) s.right) refl refl

near_itself : (p : Paddle) → IsNear p p
near_itself p = record { x = (omega (arith, ints), omega (arith, ints)); y = (omega (arith, ints), omega (arith, ints)) }

step_leads : (s : State) (k : ℕ) (m : Moment) → InHalf Left s.left → InHalf Right s.right → Leads s k m → Leads s (suc k) (step_moment s k)
step_leads s k m l r h =
    record {
      ball = rw add-one refl;
      left_in = l.x;
      right_in = r.x;
      left_near = near_itself s.left;
      right_near = near_itself s.right;
      clear = step_clear s k m l r h;
    }

-- ---- rows of moments

pub last-append : (m : Moment) (xs ys : List Moment) → last_moment m (xs ++ ys) ≡ last_moment (last_moment m xs) ys
unfolding last_moment
last-append m [] ys = refl
last-append m (x ∷ xs) ys = last-append x xs ys

pub along-append : (m : Moment) (xs ys : List Moment) → NonePassedAlong m xs → NonePassedAlong (last_moment m xs) ys → NonePassedAlong m (xs ++ ys)
unfolding NonePassedAlong last_moment
along-append m [] ys h i = i
along-append m (x ∷ xs) ys h i = (h.0, along-append x xs ys h.1 i)

along_one : (m n : Moment) → NonePassed m n → NonePassedAlong m (n ∷ [])
unfolding NonePassedAlong
along_one m n h = (h, tt)

last_one : (m n : Moment) → last_moment m (n ∷ []) ≡ n
unfolding last_moment
last_one m n = refl

-- all steps of a frame
steps_lead : (s : State) (m : Moment) → InHalf Left s.left → InHalf Right s.right → Leads s 0 m → (k : ℕ) →
    Leads s k (last_moment m (step_moments s k))
unfolding step_moments last_moment
steps_lead s m l r h zero = h
steps_lead s m l r h (suc k) = rw (last-append m (step_moments s k)) (step_leads s k (last_moment m (step_moments s k)) l r (steps_lead s m l r h k))

steps_pass_not : (s : State) (m : Moment) → InHalf Left s.left → InHalf Right s.right → Leads s 0 m → (k : ℕ) →
    NonePassedAlong m (step_moments s k)
unfolding step_moments NonePassedAlong
steps_pass_not s m l r h zero = tt
steps_pass_not s m l r h (suc k) =
    let last : Moment = last_moment m (step_moments s k) in
    along-append m (step_moments s k) (step_moment s k ∷ []) (steps_pass_not s m l r h k)
    (along_one last (step_moment s k) (step_passes_not s k last l r (steps_lead s m l r h k)))

-- the last of them is that of the ball's last step
steps_last : (s : State) (m : Moment) (k : ℕ) → 0 < k → IsMomentOf (with_ball (before_step s k) s) (last_moment m (step_moments s k))
unfolding step_moments last_moment
steps_last s m zero h = absurd (omega arith)
steps_last s m (suc k) h =
    rw (last-append m (step_moments s k)) (record { ball = rw add-one refl; left = refl; right = refl })

-- ---- the ends

-- a ball that is safe wherever the paddles are
abbrev IsSafeFromAll : Ball → Type 0
IsSafeFromAll b = (p q : Paddle) → IsSafeBefore Left b p × IsSafeBefore Right b q

middle_safe : (b : Ball) → b.x ≡ pos 20480 → IsSafeFromAll b
middle_safe b e p q = (inside (omega (arith, ints)), inside (omega (arith, ints)))

-- at an end
turned_end_safe : (end : Side) (b : Ball) → IsSafeFromAll (turned end b)
turned_end_safe Left b p q = (from_end (refl, omega (arith, ints)), inside (omega (arith, ints)))
turned_end_safe Right b p q = (inside (omega (arith, ints)), from_end (refl, omega (arith, ints)))

end_puts_by : (end : Side) (s : State) (g : Bool) → in_goal s.ball.y ≡ g → IsSafeFromAll (end_met end s).ball
unfolding end_met
end_puts_by end s true e = simp e (middle_safe _ refl)
end_puts_by end s false e = simp e (turned_end_safe end s.ball)

end_puts : (end : Side) (s : State) → IsSafeFromAll (end_met end s).ball
end_puts end s = end_puts_by end s (in_goal s.ball.y) refl

ends_put_by : (s : State) (t u : Bool) → lt_z s.ball.x (pos 512) ≡ t → lt_z (pos 40448) s.ball.x ≡ u → (t || u) ≡ true → IsSafeFromAll (ends_met s).ball
unfolding ends_met
ends_put_by s true u e f h = simp e (end_puts Left s)
ends_put_by s false true e f h = simp (e, f) (end_puts Right s)
ends_put_by s false false e f h = absurd (cc)

-- a ball past an end is put elsewhere
ends_put : (s : State) → past_end s.ball ≡ true → IsSafeFromAll (ends_met s).ball
ends_put s h = ends_put_by s (lt_z s.ball.x (pos 512)) (lt_z (pos 40448) s.ball.x) refl refl h

ends_rest_by : (s : State) (t u : Bool) → lt_z s.ball.x (pos 512) ≡ t → lt_z (pos 40448) s.ball.x ≡ u → (t || u) ≡ false → ends_met s ≡ s
unfolding ends_met
ends_rest_by s true u e f h = absurd (cc)
ends_rest_by s false true e f h = absurd (cc)
ends_rest_by s false false e f h = simp (e, f) refl

-- another ball is not
ends_rest : (s : State) → past_end s.ball ≡ false → ends_met s ≡ s
ends_rest s h = ends_rest_by s (lt_z s.ball.x (pos 512)) (lt_z (pos 40448) s.ball.x) refl refl h

-- a ball that waits lies in the middle
abbrev pub WaitsInMiddle : State → Type 0
WaitsInMiddle s = (s.wait ≡ 0) ⊎ (s.ball.x ≡ pos 20480)

end_waits_by : (end : Side) (s : State) → s.wait ≡ 0 → (g : Bool) → in_goal s.ball.y ≡ g → WaitsInMiddle (end_met end s)
unfolding end_met
end_waits_by end s h true e = inr (simp e refl)
end_waits_by end s h false e = inl (simp e h)

end_waits : (end : Side) (s : State) → s.wait ≡ 0 → WaitsInMiddle (end_met end s)
end_waits end s h = end_waits_by end s h (in_goal s.ball.y) refl

ends_wait_by : (s : State) → s.wait ≡ 0 → (t u : Bool) → lt_z s.ball.x (pos 512) ≡ t → lt_z (pos 40448) s.ball.x ≡ u → WaitsInMiddle (ends_met s)
unfolding ends_met
ends_wait_by s h true u e f = simp e (end_waits Left s h)
ends_wait_by s h false true e f = simp (e, f) (end_waits Right s h)
ends_wait_by s h false false e f = simp (e, f) (inl h)

ends_wait : (s : State) → s.wait ≡ 0 → WaitsInMiddle (ends_met s)
ends_wait s h = ends_wait_by s h (lt_z s.ball.x (pos 512)) (lt_z (pos 40448) s.ball.x) refl refl

-- ---- a frame

-- a moment before a frame from a state
pub record IsBefore (s : State) (m : Moment) : Type 0 where
  pub of_state : IsMomentOf s m
  pub clear : IsClear m
  pub waiting : WaitsInMiddle s

stepped_near : (back forth : Bool) → Within (neg_ℤ (pos 512)) (pos 512) (stepped back forth)
stepped_near true true = (omega (arith, ints), omega (arith, ints))
stepped_near true false = (omega (arith, ints), omega (arith, ints))
stepped_near false true = (omega (arith, ints), omega (arith, ints))
stepped_near false false = (omega (arith, ints), omega (arith, ints))

between_near : (lo hi x by : ℤ) → Within lo hi x → Within (neg_ℤ (pos 512)) (pos 512) by → Within (neg_ℤ (pos 512)) (pos 512) (between lo hi (x +ℤ by) -ℤ x)
between_near lo hi x by h i = (omega (arith, ints, clamps), omega (arith, ints, clamps))

-- a paddle goes no further in a frame
paddle_near : (lo hi : ℤ) (p : Paddle) (input : ℕ) → PaddleIn lo hi p → IsNear p (paddle_moved lo hi p input)
unfolding paddle_moved
paddle_near lo hi p input h =
    record {
      x = between_near lo hi p.x (stepped (bit 1 input) (bit 2 input)) h.x (stepped_near (bit 1 input) (bit 2 input));
      y = between_near (pos 2048) (pos 28672) p.y (stepped (bit 4 input) (bit 8 input)) h.y (stepped_near (bit 4 input) (bit 8 input));
    }

first_leads : (s : State) (a b : ℕ) (m : Moment) → InCourt s → IsBefore s m → Leads (paddles_moved s a b) 0 m
unfolding after_steps
first_leads s a b m h i =
    record {
      ball = i.of_state.ball;
      left_in = rw i.of_state.left h.left_in.x;
      right_in = rw i.of_state.right h.right_in.x;
      left_near = rw i.of_state.left (paddle_near (pos 512) (pos 19968) s.left a h.left_in);
      right_near = rw i.of_state.right (paddle_near (pos 20992) (pos 40448) s.right b h.right_in);
      clear = i.clear;
    }

-- what becomes of the moment before a frame
abbrev AfterFrame : Moment → List Moment → State → Type 0
AfterFrame m ns t = NonePassedAlong m ns × IsBefore t (last_moment m ns)

played_by : (s : State) (m : Moment) → InHalf Left s.left → InHalf Right s.right → Leads s 0 m → s.wait ≡ 0 →
    (p : Bool) → past_end (before_step s (step_count s.ball)) ≡ p →
    AfterFrame m (step_moments s (step_count s.ball) ++ end_moments s) (ends_met (with_ball (before_step s (step_count s.ball)) s))
played_by s m l r h w true e =
    let n : ℕ = step_count s.ball in
    let flown : State = with_ball (before_step s n) s in
    let last : Moment = last_moment m (step_moments s n) in
    let put_there : Moment = record (untouched (ends_met flown)) { placed = true } in
    let passed_not : NonePassed last put_there = (λ x y z. refl, λ x y z. refl) in
    simp e (
      along-append m (step_moments s n) (put_there ∷ []) (steps_pass_not s m l r h n) (along_one last put_there passed_not),
      rw (last-append m (step_moments s n) (put_there ∷ []), last_one)
          (record {
            of_state = record { ball = refl; left = refl; right = refl };
            clear = safe (ends_put flown e put_there.left put_there.right).0 (ends_put flown e put_there.left put_there.right).1;
            waiting = ends_wait flown w;
          }),
    )
played_by s m l r h w false e =
    let n : ℕ = step_count s.ball in
    let flown : State = with_ball (before_step s n) s in
    let last : Moment = last_moment m (step_moments s n) in
    simp e (
      rw append-nil (steps_pass_not s m l r h n),
      rw (append-nil, ends_rest flown e)
          (record { of_state = steps_last s m n (steps_some s.ball); clear = (steps_lead s m l r h n).clear; waiting = inl w }),
    )

-- while the ball waits
wait_passes_not : (side : Side) (b : Ball) (p q : Paddle) → InHalfX side p.x → InHalfX side q.x → b.x ≡ pos 20480 → ChangesSide b p b q → ⊥
wait_passes_not Left b p q h i e (inl c) = omega (arith, ints)
wait_passes_not Left b p q h i e (inr c) = omega (arith, ints)
wait_passes_not Right b p q h i e (inl c) = omega (arith, ints)
wait_passes_not Right b p q h i e (inr c) = omega (arith, ints)

waits_by : (s : State) → WaitsInMiddle s → eqb s.wait 0 ≡ false → s.ball.x ≡ pos 20480
waits_by s (inl h) e = absurd (grind (arith, h, e))
waits_by s (inr h) e = h

waited_by : (s : State) (a b : ℕ) (m : Moment) → InCourt s → IsBefore s m → s.ball.x ≡ pos 20480 →
    AfterFrame m (untouched (paddles_moved s a b) ∷ []) (waited (paddles_moved s a b))
waited_by s a b m h i e =
    let there : State = paddles_moved s a b in
    let k : InCourt there = paddles_in s a b h in
    let left_in : InHalfX Left m.left.x = rw i.of_state.left h.left_in.x in
    let right_in : InHalfX Right m.right.x = rw i.of_state.right h.right_in.x in
    let middle : m.ball.x ≡ pos 20480 = rw i.of_state.ball e in
    let passed_not : NonePassed m (untouched there) = (
      λ x y z. absurd (wait_passes_not Left s.ball m.left there.left left_in k.left_in.x e (rw i.of_state.ball at x)),
      λ x y z. absurd (wait_passes_not Right s.ball m.right there.right right_in k.right_in.x e (rw i.of_state.ball at x)),
    )
    in (
      along_one m (untouched there) passed_not,
      rw last_one
          (record {
            of_state = record { ball = refl; left = refl; right = refl };
            clear = safe (middle_safe s.ball e there.left there.right).0 (middle_safe s.ball e there.left there.right).1;
            waiting = inr e;
          }),
    )

-- a frame, by whether the game is over and whether the ball waits
frame_by : (s : State) (a b : ℕ) (m : Moment) → InCourt s → IsBefore s m → (o w : Bool) → over s ≡ o → eqb s.wait 0 ≡ w →
    AfterFrame m (frame_moments s a b) (advanced s a b)
unfolding frame_moments advanced_by ball_played_by NonePassedAlong last_moment
frame_by s a b m h i true w e f = simp e (tt, i)
frame_by s a b m h i false true e f =
    let there : State = paddles_moved s a b in
    let k : InCourt there = paddles_in s a b h in
    simp (e, f)
    (played_by there m k.left_in k.right_in (first_leads s a b m h i) (eqb-true s.wait 0 f) (past_end (before_step there (step_count s.ball))) refl)
frame_by s a b m h i false false e f =
    simp (e, f) (waited_by s a b m h i (waits_by s i.waiting f))

pub frame_passes_not : (s : State) (a b : ℕ) (m : Moment) → InCourt s → IsBefore s m → NonePassedAlong m (frame_moments s a b)
frame_passes_not s a b m h i = (frame_by s a b m h i (over s) (eqb s.wait 0) refl refl).0

pub frame_ends : (s : State) (a b : ℕ) (m : Moment) → InCourt s → IsBefore s m → IsBefore (advanced s a b) (last_moment m (frame_moments s a b))
frame_ends s a b m h i = (frame_by s a b m h i (over s) (eqb s.wait 0) refl refl).1

pub before_start : IsBefore start (untouched start)
unfolding start
before_start =
    record {
      of_state = record { ball = refl; left = refl; right = refl };
      clear = safe (middle_safe start.ball refl start.left start.right).0 (middle_safe start.ball refl start.left start.right).1;
      waiting = inr refl;
    }

-- ---- the example

pub fast_ball_is_sent_back : FastBallIsSentBack
unfolding paddle_moved step_count step_length along ball_moved after_steps both_at_once end_met ends_met ball_played_by advanced_by
fast_ball_is_sent_back =
    record {
      else_passes = λ h.
          let met : false ≡ true = h.1 (inl (omega (arith, ints), omega (arith, ints))) (omega (arith, ints)) (omega (arith, ints)) in
          cc;
      goes_back = refl;
    }
