-- A frame keeps a state in the court. Assumes nothing.
use Rattle.std.proofs.Common.{◌≡◌, ℕ, zero, suc, ◌+◌, ◌≤◌, ◌%◌, ◌<◌, Bool, true, false, cond, eqb, leb, ℤ, pos, ◌+ℤ◌, ◌-ℤ◌, neg_ℤ, ◌≤ℤ◌, refl, arith}
use lib.Signed.{lt_z}
use Rattle.std.proofs.lemmas.Int.{ints}
use Rattle.std.proofs.lemmas.Bool.{leb-false}
use Rattle.court.specs.declared.state.Ball.{Ball}
use Rattle.court.specs.declared.state.Paddle.{Paddle}
use Rattle.court.specs.declared.state.Side.{Side}
use Rattle.court.specs.declared.state.Side.TheVariants.{Left, Right}
use Rattle.court.specs.declared.state.State.{State}
use Rattle.court.specs.Frame.{between, size, inward, stepped, bit, paddle_moved, paddles_moved, ball_moved, meets, quickened, bent_by, sixteenth_of, step_count, step_moved, after_steps, struck, sent_back, both_at_once, in_goal, serve_ball, end_at, turned, end_met, ends_met, with_ball, ball_played, ball_played_by, over, advanced, advanced_by, start}
use Rattle.court.specs.Bounds.{Within, Flying, BallIn, PaddleIn, OnCourt, InHalf, InCourt, InPlay}
use Rattle.court.proofs.Steps.{step_short_x, steps_few, along_in}

-- ---- numbers

pub between_in : (lo hi a : ℤ) → lo ≤ℤ hi → Within lo hi (between lo hi a)
between_in lo hi a h = grind (arith, ints)

pub size_in : (m a : ℤ) → Within (neg_ℤ m) m a → Within (pos 0) m (size a)
size_in m a h = (omega (arith, ints), omega (arith, ints))

pub inward_in : (side : Side) (m a : ℤ) → Within (pos 0) m a → Within (neg_ℤ m) m (inward side a)
inward_in Left m a h = (omega (arith, ints), omega (arith, ints))
inward_in Right m a h = (omega (arith, ints), omega (arith, ints))

quickened_in : (a : ℤ) → Within (pos 0) (pos 6144) (quickened a)
quickened_in a = grind (arith, ints)

-- ---- the steps of a frame

-- by the walls' tests
moved_by : (k : ℕ) (b : Ball) (by_x by_y : ℤ) → Flying k b → Within (neg_ℤ (pos 768)) (pos 768) by_x → (t u : Bool) → lt_z (b.y +ℤ by_y) (pos 512) ≡ t → lt_z (pos 30208) (b.y +ℤ by_y) ≡ u → Flying (k + 1) (ball_moved by_x by_y b)
unfolding ball_moved
moved_by k b by_x by_y h i true u e f =
    simp e (record {
      x = (omega (arith, ints), omega (arith, ints));
      y = (omega (arith, ints), omega (arith, ints));
      dx = h.dx;
      dy = (omega (arith, ints), omega (arith, ints));
    })
moved_by k b by_x by_y h i false true e f =
    simp (e, f) (record {
      x = (omega (arith, ints), omega (arith, ints));
      y = (omega (arith, ints), omega (arith, ints));
      dx = h.dx;
      dy = (omega (arith, ints), omega (arith, ints));
    })
moved_by k b by_x by_y h i false false e f =
    simp (e, f) (record { x = (omega (arith, ints), omega (arith, ints)); y = (grind (arith, ints), grind (arith, ints)); dx = h.dx; dy = h.dy })

pub moved_in : (k : ℕ) (b : Ball) (by_x by_y : ℤ) → Flying k b → Within (neg_ℤ (pos 768)) (pos 768) by_x → Flying (k + 1) (ball_moved by_x by_y b)
moved_in k b by_x by_y h i = moved_by k b by_x by_y h i (lt_z (b.y +ℤ by_y) (pos 512)) (lt_z (pos 30208) (b.y +ℤ by_y)) refl refl

-- a ball flies on, and one in the court has not flown yet
pub flies_on : (k m : ℕ) (b : Ball) → k ≤ m → Flying k b → Flying m b
flies_on k m b e h = record { x = (omega (arith, ints), omega (arith, ints)); y = h.y; dx = h.dx; dy = h.dy }

pub flies_not : (b : Ball) → BallIn b → Flying 0 b
flies_not b h = record { x = (omega (arith, ints), omega (arith, ints)); y = h.y; dx = h.dx; dy = h.dy }

struck_dx : (side : Side) (b : Ball) → Within (neg_ℤ (pos 6144)) (pos 6144) (inward side (quickened b.dx))
struck_dx side b = inward_in side (pos 6144) (quickened b.dx) (quickened_in b.dx)

struck_dy : (b : Ball) (p : Paddle) → Within (neg_ℤ (pos 6144)) (pos 6144) (bent_by b.dy (b.y -ℤ p.y))
struck_dy b p = between_in (neg_ℤ (pos 6144)) (pos 6144) (b.dy +ℤ sixteenth_of (b.y -ℤ p.y)) (omega (arith, ints))

struck_in : (k : ℕ) (side : Side) (p : Paddle) (b : Ball) → InHalf side p → Flying k b → Flying k (struck side p b)
struck_in k Left p b i h =
    record { x = (omega (arith, ints, i.x), omega (arith, ints, i.x)); y = h.y; dx = struck_dx Left b; dy = struck_dy b p }
struck_in k Right p b i h =
    record { x = (omega (arith, ints, i.x), omega (arith, ints, i.x)); y = h.y; dx = struck_dx Right b; dy = struck_dy b p }

sent_back_in : (k m : ℕ) (before moved : Ball) → k ≤ m → Flying k before → Flying m moved → Flying m (sent_back before moved)
sent_back_in k m before moved e h i =
    record {
      x = (flies_on k m before e h).x;
      y = h.y;
      dx = (omega (arith, ints, i.dx), omega (arith, ints, i.dx));
      dy = i.dy;
    }

met_by : (k : ℕ) (l r : Paddle) (before moved : Ball) → InHalf Left l → InHalf Right r → Flying k before → Flying (k + 1) moved → (t u : Bool) → meets moved l ≡ t → meets moved r ≡ u → Flying (k + 1) (both_at_once l r before moved)
unfolding both_at_once
met_by k l r before moved hl hr h i true true e f = simp (e, f) (sent_back_in k (k + 1) before moved (omega arith) h i)
met_by k l r before moved hl hr h i true false e f = simp (e, f) (struck_in (k + 1) Left l moved hl i)
met_by k l r before moved hl hr h i false true e f = simp (e, f) (struck_in (k + 1) Right r moved hr i)
met_by k l r before moved hl hr h i false false e f = simp (e, f) i

pub met_in : (k : ℕ) (l r : Paddle) (before moved : Ball) → InHalf Left l → InHalf Right r → Flying k before → Flying (k + 1) moved → Flying (k + 1) (both_at_once l r before moved)
met_in k l r before moved hl hr h i = met_by k l r before moved hl hr h i (meets moved l) (meets moved r) refl refl

-- the ball after k steps of a frame

-- one step more
step_in : (l r : Paddle) (first b : Ball) → InHalf Left l → InHalf Right r → (k : ℕ) → Flying k b → Flying (suc k) (both_at_once l r b (step_moved first k b))
step_in l r first b hl hr k i =
    flies_on (k + 1) (suc k) _ (omega arith) (met_in k l r b (step_moved first k b) hl hr i (moved_in k b _ _ i (along_in b.dx _ 768 (step_short_x first k))))

pub steps_in : (l r : Paddle) (first : Ball) → InHalf Left l → InHalf Right r → BallIn first → (k : ℕ) → Flying k (after_steps both_at_once l r first k)
unfolding after_steps
steps_in l r first hl hr h zero = flies_not first h
steps_in l r first hl hr h (suc k) = step_in l r first (after_steps both_at_once l r first k) hl hr k (steps_in l r first hl hr h k)

paddle_in : (lo hi : ℤ) (p : Paddle) (input : ℕ) → lo ≤ℤ hi → PaddleIn lo hi (paddle_moved lo hi p input)
unfolding paddle_moved
paddle_in lo hi p input h =
    record {
      x = between_in lo hi (p.x +ℤ stepped (bit 1 input) (bit 2 input)) h;
      y = between_in (pos 2048) (pos 28672) (p.y +ℤ stepped (bit 4 input) (bit 8 input)) (omega (arith, ints));
    }

pub left_on : (p : Paddle) → PaddleIn (pos 512) (pos 19968) p → OnCourt p
left_on p h = record { x = (h.x.0, omega (arith, ints)); y = h.y }

pub right_on : (p : Paddle) → PaddleIn (pos 20992) (pos 40448) p → OnCourt p
right_on p h = record { x = (omega (arith, ints), h.x.1); y = h.y }

pub paddles_in : (s : State) (a b : ℕ) → InCourt s → InCourt (paddles_moved s a b)
paddles_in s a b h =
    record {
      ball_in = h.ball_in;
      left_in = paddle_in (pos 512) (pos 19968) s.left a (omega (arith, ints));
      right_in = paddle_in (pos 20992) (pos 40448) s.right b (omega (arith, ints));
      left_score = h.left_score;
      right_score = h.right_score;
      wait_in = h.wait_in;
    }

-- ---- the ends

served_up : (even : Bool) → Within (neg_ℤ (pos 6144)) (pos 6144) (cond even (pos 256) (neg_ℤ (pos 256)))
served_up true = (omega (arith, ints), omega (arith, ints))
served_up false = (omega (arith, ints), omega (arith, ints))

wide : {a : ℤ} → Within (neg_ℤ (pos 512)) (pos 512) a → Within (neg_ℤ (pos 6144)) (pos 6144) a
wide h = (omega (arith, ints), omega (arith, ints))

served_in : (out : Side) (l r : ℕ) → BallIn (serve_ball out (record { left = l; right = r }))
served_in out l r =
    record {
      x = (omega (arith, ints), omega (arith, ints));
      y = (omega (arith, ints), omega (arith, ints));
      dx = wide (inward_in out (pos 512) (pos 512) (omega (arith, ints), omega (arith, ints)));
      dy = served_up (eqb ((l + r) % 2) 0);
    }

end_within : (end : Side) → Within (pos 512) (pos 40448) (end_at end)
end_within Left = (omega (arith, ints), omega (arith, ints))
end_within Right = (omega (arith, ints), omega (arith, ints))

turned_in : (end : Side) (b : Ball) → Flying 8 b → BallIn (turned end b)
turned_in end b h =
    record { x = end_within end; y = h.y; dx = inward_in end (pos 6144) (size b.dx) (size_in (pos 6144) b.dx h.dx); dy = h.dy }

end_by : (end : Side) (s : State) → InPlay s → (g : Bool) → in_goal s.ball.y ≡ g → InCourt (end_met end s)
unfolding end_met
end_by Left s h true e =
    simp e (record {
      ball_in = served_in Left s.score.left (s.score.right + 1);
      left_in = h.left_in;
      right_in = h.right_in;
      left_score = omega arith;
      right_score = omega arith;
      wait_in = omega arith;
    })
end_by Right s h true e =
    simp e (record {
      ball_in = served_in Right (s.score.left + 1) s.score.right;
      left_in = h.left_in;
      right_in = h.right_in;
      left_score = omega arith;
      right_score = omega arith;
      wait_in = omega arith;
    })
end_by end s h false e =
    simp e (record {
      ball_in = turned_in end s.ball h.ball_in;
      left_in = h.left_in;
      right_in = h.right_in;
      left_score = omega arith;
      right_score = omega arith;
      wait_in = h.wait_in;
    })

end_in : (end : Side) (s : State) → InPlay s → InCourt (end_met end s)
end_in end s h = end_by end s h (in_goal s.ball.y) refl

ends_by : (s : State) → InPlay s → (t u : Bool) → lt_z s.ball.x (pos 512) ≡ t → lt_z (pos 40448) s.ball.x ≡ u → InCourt (ends_met s)
unfolding ends_met
ends_by s h true u e f = simp e (end_in Left s h)
ends_by s h false true e f = simp (e, f) (end_in Right s h)
ends_by s h false false e f =
    simp (e, f) (record {
      ball_in = record { x = (grind (arith, ints), grind (arith, ints)); y = h.ball_in.y; dx = h.ball_in.dx; dy = h.ball_in.dy };
      left_in = h.left_in;
      right_in = h.right_in;
      left_score = omega arith;
      right_score = omega arith;
      wait_in = h.wait_in;
    })

pub ends_in : (s : State) → InPlay s → InCourt (ends_met s)
ends_in s h = ends_by s h (lt_z s.ball.x (pos 512)) (lt_z (pos 40448) s.ball.x) refl refl

-- ---- the frame

-- the ball after all steps
pub flown_in : (s : State) → InCourt s → Flying 8 (after_steps both_at_once s.left s.right s.ball (step_count s.ball))
flown_in s h =
    let few : step_count s.ball ≤ 8 = steps_few s.ball (omega (arith, ints, h.ball_in.dx)) (omega (arith, ints, h.ball_in.dy)) in
    flies_on (step_count s.ball) 8 _ few (steps_in s.left s.right s.ball h.left_in h.right_in h.ball_in (step_count s.ball))

pub in_play : (b : Ball) (s : State) → Flying 8 b → InCourt s → s.score.left < 9 → s.score.right < 9 → InPlay (with_ball b s)
in_play b s f h l r =
    record { ball_in = f; left_in = h.left_in; right_in = h.right_in; left_score = l; right_score = r; wait_in = h.wait_in }

played_in : (s : State) → InCourt s → s.score.left < 9 → s.score.right < 9 → InCourt (ball_played s)
unfolding ball_played_by
played_in s h l r =
    let b : Ball = after_steps both_at_once s.left s.right s.ball (step_count s.ball) in
    ends_in (with_ball b s) (in_play b s (flown_in s h) h l r)

advanced_cases : (s : State) (a b : ℕ) → InCourt s → (l r w : Bool) → leb 9 s.score.left ≡ l → leb 9 s.score.right ≡ r → eqb s.wait 0 ≡ w → InCourt (advanced s a b)
unfolding advanced_by
advanced_cases s a b h true r w e f g = simp e h
advanced_cases s a b h false true w e f g = simp (e, f) h
advanced_cases s a b h false false true e f g =
    simp (e, f, g) (played_in (paddles_moved s a b) (paddles_in s a b h) (leb-false 9 s.score.left e) (leb-false 9 s.score.right f))
advanced_cases s a b h false false false e f g =
    let k : InCourt (paddles_moved s a b) = paddles_in s a b h in
    simp (e, f, g) (record {
      ball_in = k.ball_in;
      left_in = k.left_in;
      right_in = k.right_in;
      left_score = k.left_score;
      right_score = k.right_score;
      wait_in = omega arith;
    })

-- once somebody has nine points nothing changes
pub frame_rests : (s : State) (a b : ℕ) → over s ≡ true → advanced s a b ≡ s
unfolding advanced_by
frame_rests s a b e = simp e

pub advanced_in : (s : State) (a b : ℕ) → InCourt s → InCourt (advanced s a b)
advanced_in s a b h = advanced_cases s a b h (leb 9 s.score.left) (leb 9 s.score.right) (eqb s.wait 0) refl refl refl

pub start_in : InCourt start
unfolding start
start_in =
    record {
      ball_in = record {
        x = (omega (arith, ints), omega (arith, ints));
        y = (omega (arith, ints), omega (arith, ints));
        dx = (omega (arith, ints), omega (arith, ints));
        dy = (omega (arith, ints), omega (arith, ints));
      };
      left_in = record { x = (omega (arith, ints), omega (arith, ints)); y = (omega (arith, ints), omega (arith, ints)) };
      right_in = record { x = (omega (arith, ints), omega (arith, ints)); y = (omega (arith, ints), omega (arith, ints)) };
      left_score = omega arith;
      right_score = omega arith;
      wait_in = omega arith;
    }
