-- A field within bytes is a part of the number that the bytes are.
use Rattle.std.proofs.Common.{◌≡◌, ℕ, zero, suc, ◌+◌, ◌-◌, ◌*◌, ◌/◌, ◌%◌, ◌^◌, ◌<◌, ◌≤◌, List, length, get_or, take, sym, ap, ◌∙◌, add-one, arith}
use Rattle.std.specs.Int.Digits.{number_from_digits}
use Rattle.std.proofs.lemmas.Nat.{shr_high, mod_low}
use Rattle.std.proofs.lemmas.Int.Digits.{number_more}
use Rattle.std.proofs.lemmas.List.{take_all}
use Rattle.bits.specs.Field.{bit_of, bit, field}
use Rattle.bits.specs.Part.{part}
use Rattle.bits.proofs.Fields.{field_lt, field_none, field_split}

-- a byte is its bits
pub byte_bits : (b : ℕ) → b < 256
    → b ≡ bit_of b 0 * 128 + bit_of b 1 * 64 + bit_of b 2 * 32 + bit_of b 3 * 16 + bit_of b 4 * 8 + bit_of b 5 * 4 + bit_of b 6 * 2 + bit_of b 7
unfolding bit_of
byte_bits b h = omega arith

-- a bit of byte k
pub bit_in : (xs : List ℕ) (k j : ℕ) → j < 8 → bit xs (8 * k + j) ≡ bit_of (get_or xs k 0) j
unfolding bit
bit_in xs k j h = ap (λ n. bit_of (get_or xs n 0) ((8 * k + j) % 8)) (omega arith) ∙ ap (bit_of (get_or xs k 0)) (omega arith)

-- a byte is the field of its eight bits
pub field_byte : (xs : List ℕ) (k : ℕ) → get_or xs k 0 < 256 → field xs (8 * k) 8 ≡ get_or xs k 0
unfolding field
field_byte xs k h =
    omega (arith, byte_bits (get_or xs k 0) h, bit_in xs k 0 (omega arith), bit_in xs k 1 (omega arith), bit_in xs k 2 (omega arith), bit_in xs k 3 (omega arith), bit_in xs k 4 (omega arith), bit_in xs k 5 (omega arith), bit_in xs k 6 (omega arith), bit_in xs k 7 (omega arith))

-- the first k bytes as a field and as a number
pub field_front : (xs : List ℕ) (k : ℕ) → ((i : ℕ) → get_or xs i 0 < 256) → k ≤ length xs → field xs 0 (8 * k) ≡ number_from_digits 256 (take k xs)
field_front xs zero h l = field_none xs 0
field_front xs (suc k) h l =
    let a : 8 * suc k ≡ 8 * k + 8 = omega arith in
    let b = field_front xs k h (omega arith) in
    let c = field_byte xs k (h k) in
    let d = number_more 256 xs k (omega arith) in
    let e : number_from_digits 256 (take (suc k) xs) ≡ number_from_digits 256 (take (k + 1) xs) = ap (λ n. number_from_digits 256 (take n xs)) (sym (add-one k)) in
    let f = field_split xs 0 (8 * k) 8 in
    let g : field xs (0 + 8 * k) 8 ≡ field xs (8 * k) 8 = ap (λ n. field xs n 8) (omega arith) in
    ap (field xs 0) a ∙ omega (arith, b, c, d, e, f, g)

-- a field within the bytes is that part of their number
pub field_part : (xs : List ℕ) (s w : ℕ) → ((i : ℕ) → get_or xs i 0 < 256) → s + w ≤ 8 * length xs → field xs s w ≡ part xs s w
field_part xs s w h l =
    let n = length xs in
    let r : ℕ = 8 * n - s - w in
    let whole : field xs 0 (8 * n) ≡ number_from_digits 256 xs = field_front xs n h (omega arith) ∙ ap (number_from_digits 256) (take_all n xs (omega arith)) in
    let cut : 8 * n ≡ (s + w) + r = omega arith in
    let a : number_from_digits 256 xs ≡ field xs 0 (s + w) * 2 ^ r + field xs (0 + (s + w)) r = sym whole ∙ ap (field xs 0) cut ∙ field_split xs 0 (s + w) r in
    let b : number_from_digits 256 xs / 2 ^ r ≡ field xs 0 (s + w) = ap (λ m. m / 2 ^ r) a ∙ shr_high (field xs 0 (s + w)) r (field xs (0 + (s + w)) r) (field_lt xs (0 + (s + w)) r) in
    let c : field xs 0 (s + w) ≡ field xs 0 s * 2 ^ w + field xs s w = field_split xs 0 s w ∙ ap (λ i. field xs 0 s * 2 ^ w + field xs i w) (omega arith) in
    sym (ap (λ m. m % 2 ^ w) (b ∙ c) ∙ mod_low (field xs 0 s) w (field xs s w) (field_lt xs s w))
