-- The reading of a number, digit by digit.
use Rattle.std.proofs.Common.{◌≡◌, ℕ, ◌+◌, ◌-◌, ◌*◌, ◌<◌, true, false, cond, leb, List, [], ◌∷◌, length, get_or, drop, Some, None, sym, refl, ap, ◌∙◌, arith}
use borrow.Author.Tests.{lt-leb}
use Rattle.std.proofs.lemmas.List.{at_drop_more}
use Rattle.jobtext.specs.Numbers.{is_digit, digits_after, up_to, number_up_to}

-- a number that is above the most stays so, whatever digits follow
past_most : (most n : ℕ) (cs : List ℕ) → most < n → up_to most (digits_after n cs) ≡ None
past_most most n [] h = let e : leb n most ≡ false = lt-leb n most h in ap (λ b. cond b (Some n) None) e
past_most most n (c ∷ cs) h = elim (is_digit c) as (λ b. up_to most (cond b (digits_after (n * 10 + (c - 48)) cs) None) ≡ None) [ true ↦ past_most most (n * 10 + (c - 48)) cs (omega arith) | false ↦ refl ]

-- a word that is not empty
number_digits : (most : ℕ) (xs : List ℕ) → 0 < length xs → up_to most (digits_after 0 xs) ≡ number_up_to most xs
number_digits most [] h = absurd (omega arith)
number_digits most (c ∷ cs) h = refl

-- a number passed the most by the digit at i, where the word is not empty
pub digits_past : (most : ℕ) (xs : List ℕ) (i n : ℕ) → up_to most (digits_after n (drop i xs)) ≡ up_to most (digits_after 0 xs) → i < length xs → is_digit (get_or xs i 0) ≡ true → most < n * 10 + (get_or xs i 0 - 48) → None ≡ number_up_to most xs
digits_past most xs i n inv l e p =
    let next = n * 10 + (get_or xs i 0 - 48) in
    let more : up_to most (digits_after n (drop i xs)) ≡ None = at_drop_more (λ r. up_to most (digits_after n r)) xs i 0 l ∙ ap (λ t. up_to most (cond t (digits_after next (drop (i + 1) xs)) None)) e ∙ past_most most next (drop (i + 1) xs) p in
    sym more ∙ inv ∙ number_digits most xs (omega arith)
