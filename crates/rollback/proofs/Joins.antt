-- A packet's inputs that joined the log: what they leave, and what they change. Assumes nothing.
use Rattle.std.proofs.Common.{◌≡◌, ℕ, ◌+◌, ◌<◌, ◌≤◌, List, get_or, sym, ◌∙◌, arith}
use Rattle.game.specs.Plain.{Game}
use Rattle.peer.specs.declared.numbers.Peer.{Peer}
use Rattle.peer.specs.Lent.{Untouched, other_at, after}
use Rattle.rollback.proofs.Predictions.{other_same, other_came, other_right, after_same}

-- w is the first frame that was played with a wrong prediction, or how many frames were played
pub record Found (p q : Peer) (xs ys : List ℕ) (w : ℕ) : Type 0 where
  pub own : (i : ℕ) → i < p.own → get_or ys i 0 ≡ get_or xs i 0
  pub right : (i : ℕ) → i < w → other_at p.other xs i ≡ other_at q.other ys i
  pub wrong : w < p.own → other_at p.other xs w ≡ other_at q.other ys w → ⊥

pub found : (p q : Peer) (xs ys : List ℕ) (w : ℕ) → q.own ≡ p.own → p.other ≤ q.other → Untouched p xs q ys → (w < p.own → w < q.other) → ((i : ℕ) → p.other ≤ i → i < w → i < q.other → get_or ys (1000000 + i) 0 ≡ other_at p.other ys i) → (w < p.own → get_or ys (1000000 + w) 0 ≡ other_at p.other ys w → ⊥) → Found p q xs ys w
found p q xs ys w e more untouched new right wrong =
    let few : p.own ≤ 1000000 = p.few.0 in
    let came : (j : ℕ) → j < p.other → get_or ys (1000000 + j) 0 ≡ get_or xs (1000000 + j) 0 =
    λ j h. untouched (1000000 + j) (λ out. omega (arith, out.0, out.1)) (λ out. omega (arith, out.0)) in
    record {
      own = λ i h. untouched i (λ out. omega (arith, out.0)) (λ out. omega (arith, out.0));
      right = λ i h. other_same xs ys p.other i came ∙ other_right ys p.other q.other w more right i h;
      wrong = λ h d. wrong h (sym (other_came ys q.other w (new h)) ∙ sym d ∙ other_same xs ys p.other w came);
    }

-- so the states up to w stay
pub found_after : {S : Type 0} (g : Game S) (p q : Peer) (xs ys : List ℕ) (w : ℕ) → w ≤ p.own → Found p q xs ys w → (k : ℕ) → k ≤ w → after g xs p.other k ≡ after g ys q.other k
found_after g p q xs ys w h f k l = after_same g xs ys p.other q.other k (λ i m. f.own i (omega arith)) (λ i m. f.right i (omega arith))
