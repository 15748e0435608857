-- Bytes from their bits, and the fields of the front of bytes.
use Rattle.std.proofs.Common.{◌≡◌, ℕ, zero, suc, ◌+◌, ◌-◌, ◌*◌, ◌/◌, ◌%◌, ◌<◌, ◌≤◌, List, length, get_or, take, drop, sym, ap, ◌∙◌, inl, inr, arith, length-drop}
use Rattle.std.proofs.lemmas.List.{ext_get_or, get_or-drop, get_or-take, length-take-le}
use Rattle.std.proofs.lemmas.Bool.{cases_eq}
use Rattle.bits.specs.Field.{bit_of, bit, field}
use Rattle.bits.specs.Wrote.{KeptOutside}
use Rattle.bits.proofs.Fields.{bit_lt}
use Rattle.bits.proofs.Parts.{byte_bits, bit_in}
use Rattle.bits.proofs.Writes.{field_same}

-- a field decides its bits
pub bits_same : (xs ys : List ℕ) (s w : ℕ) → field xs s w ≡ field ys s w → (i : ℕ) → i < w → bit xs (s + i) ≡ bit ys (s + i)
unfolding field
bits_same xs ys s zero e i l = absurd (omega arith)
bits_same xs ys s (suc w) e i l =
    let x = bit_lt xs (s + w) in
    let y = bit_lt ys (s + w) in
    let one : field xs s w ≡ field ys s w = omega arith in
    let two : bit xs (s + w) ≡ bit ys (s + w) = omega arith in
    elim (cases_eq i w) [ inl h ↦ ap (λ k. bit xs (s + k)) h ∙ two ∙ sym (ap (λ k. bit ys (s + k)) h) | inr h ↦ bits_same xs ys s w one i (omega arith) ]

-- the same by the place of the bit
pub bits_same_at : (xs ys : List ℕ) (s w : ℕ) → field xs s w ≡ field ys s w → (i : ℕ) → s ≤ i → i < s + w → bit xs i ≡ bit ys i
bits_same_at xs ys s w e i l h = let f : i ≡ s + (i - s) = omega arith in ap (bit xs) f ∙ bits_same xs ys s w e (i - s) (omega arith) ∙ sym (ap (bit ys) f)

-- its bits decide a byte
pub byte_same : (xs ys : List ℕ) (k : ℕ) → get_or xs k 0 < 256 → get_or ys k 0 < 256 → ((i : ℕ) → 8 * k ≤ i → i < 8 * k + 8 → bit xs i ≡ bit ys i) → get_or xs k 0 ≡ get_or ys k 0
byte_same xs ys k p q h =
    omega (arith, byte_bits (get_or xs k 0) p, byte_bits (get_or ys k 0) q, at 0 (omega arith), at 1 (omega arith), at 2 (omega arith), at 3 (omega arith), at 4 (omega arith), at 5 (omega arith), at 6 (omega arith), at 7 (omega arith))
  where
    at : (j : ℕ) → j < 8 → bit_of (get_or xs k 0) j ≡ bit_of (get_or ys k 0) j
    at j l = sym (bit_in xs k j l) ∙ h (8 * k + j) (omega arith) (omega arith) ∙ bit_in ys k j l

-- bytes up to a place
pub take_same : (xs ys : List ℕ) (m : ℕ) → m ≤ length xs → m ≤ length ys → ((i : ℕ) → get_or xs i 0 < 256) → ((i : ℕ) → get_or ys i 0 < 256) → ((i : ℕ) → i < 8 * m → bit xs i ≡ bit ys i) → take m xs ≡ take m ys
take_same xs ys m l r p q h =
    ext_get_or 0 (take m xs) (take m ys) (length-take-le m xs l ∙ sym (length-take-le m ys r))
    (λ i j. let k : i < m = omega (arith, length-take-le m xs l) in get_or-take m xs i 0 k ∙ byte_same xs ys i (p i) (q i) (λ n a b. h n (omega arith)) ∙ sym (get_or-take m ys i 0 k))

-- bytes behind a change are kept
pub drop_kept : (xs ys : List ℕ) (s e m : ℕ) → KeptOutside xs ys s e → e ≤ 8 * m → drop m ys ≡ drop m xs
drop_kept xs ys s e m h l =
    ext_get_or 0 (drop m ys) (drop m xs) (length-drop m ys ∙ ap (λ n. n - m) h.long ∙ sym (length-drop m xs))
    (λ i _. get_or-drop m ys i 0 ∙ h.bytes (m + i) (inr (omega arith)) ∙ sym (get_or-drop m xs i 0))

-- the front of bytes has the same fields
bit_take : (m : ℕ) (xs : List ℕ) (i : ℕ) → i < 8 * m → bit (take m xs) i ≡ bit xs i
unfolding bit
bit_take m xs i h = ap (λ b. bit_of b (i % 8)) (get_or-take m xs (i / 8) 0 (omega arith))

pub field_take : (m : ℕ) (xs : List ℕ) (s w : ℕ) → s + w ≤ 8 * m → field (take m xs) s w ≡ field xs s w
field_take m xs s w h = field_same (take m xs) xs s w (λ i a b. bit_take m xs i (omega arith))
