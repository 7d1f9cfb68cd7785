-- A packet written over a slice. Assumes nothing.
use Rattle.std.proofs.Common.{◌≡◌, ℕ, ◌+◌, ◌^◌, ◌<◌, List, ◌∷◌, ◌++◌, length, take, drop, Ok, ap, ◌∙◌, arith}
use borrow.Rule.Slice.PartMut.{put_mid}
use Rattle.std.proofs.lemmas.List.{drop-drop, take_at}
use Rattle.byte_numbers.specs.Little.{little}
use Rattle.packet.specs.Wire.{Message, Proper, message_bytes, message_length, reading}
use Rattle.packet.proofs.Readings.{written_read}

-- the head is written, and then the inputs behind it
pub put_whole : (f n a k : ℕ) (is e xs ys : List ℕ) → xs ≡ 72 ∷ (little 4 f ++ (n ∷ (little 4 a ++ drop 10 e))) → ys ≡ is → n ≡ length is → k ≡ length is → put_mid 10 k xs ys ≡ message_bytes (record { first = f; inputs = is; ack = a }) ++ drop (10 + length is) e
put_whole f n a k is e xs ys p q r s =
    ap (λ zs. put_mid 10 k zs ys) p
    ∙ ap (λ zs. 72 ∷ (little 4 f ++ (n ∷ (little 4 a ++ (zs ++ drop k (drop 10 e)))))) q
    ∙ ap (λ c. 72 ∷ (little 4 f ++ (c ∷ (little 4 a ++ (is ++ drop k (drop 10 e)))))) r
    ∙ ap (λ zs. 72 ∷ (little 4 f ++ (length is ∷ (little 4 a ++ (is ++ zs))))) (drop-drop k 10 e ∙ ap (λ m. drop (10 + m) e) s)

-- what was written is read, whatever lies behind it
pub read_again : (own : ℕ) (m : Message) (rest : List ℕ) (end : ℕ) → end ≡ message_length m → own < 2 ^ 32 → Proper own m → reading own (take end (message_bytes m ++ rest)) ≡ Ok m
read_again own m rest end e small h =
    ap (reading own) (take_at (message_bytes m) rest end (omega arith)) ∙ written_read own m small h
