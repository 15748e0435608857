-- What writes into bits leave: one bit, one field bit by bit, and one write after another.
use Rattle.std.proofs.Common.{◌≡◌, ℕ, zero, suc, ◌+◌, ◌-◌, ◌*◌, ◌/◌, ◌%◌, ◌^◌, ◌<◌, ◌≤◌, ◌⊎◌, ℤ, List, length, get_or, set, sym, refl, ap, ◌∙◌, inl, inr, mod-eq_of_lt, arith, length-set}
use lib.Bits.{bit_and, bit_xor}
use Rattle.std.proofs.lemmas.Nat.{and_mask, shr-shr, mod-pow-add, one_shl}
use Rattle.std.proofs.lemmas.List.{get_or-set_same, get_or-set_other}
use Rattle.std.proofs.lemmas.Bool.{cases_eq}
use Rattle.std.proofs.lemmas.Nat.Bits.{bit_at_xor, bit_at-pow_same, bit_at-pow_other, bit_at-lt}
use Rattle.bits.specs.Field.{bit_of, bit, field}
use Rattle.bits.specs.Signed.{signed, unsigned, InRange}
use Rattle.bits.proofs.Signs.{unsigned_lt, signed_unsigned}
use Rattle.bits.specs.Wrote.{KeptOutside, Wrote}
use Rattle.bits.proofs.Fields.{field_none, field_more}

-- what is kept

-- nothing is changed where nothing is written
pub kept_none : (xs : List ℕ) (s e : ℕ) → KeptOutside xs xs s e
kept_none xs s e = record { long = refl; bits = λ i _. refl; bytes = λ k _. refl }

-- what is kept outside some bits is kept outside more of them
pub kept_wider : (xs ys : List ℕ) (a b s e : ℕ) → s ≤ a → b ≤ e → KeptOutside xs ys a b → KeptOutside xs ys s e
kept_wider xs ys a b s e p q h = record {
  long = h.long;
  bits = λ i o. h.bits i (elim o [ inl l ↦ inl (omega arith) | inr l ↦ inr (omega arith) ]);
  bytes = λ k o. h.bytes k (elim o [ inl l ↦ inl (omega arith) | inr l ↦ inr (omega arith) ]);
}

-- one change after another
pub kept_both : (xs ys zs : List ℕ) (s e : ℕ) → KeptOutside xs ys s e → KeptOutside ys zs s e → KeptOutside xs zs s e
kept_both xs ys zs s e g h = record {
  long = h.long ∙ g.long;
  bits = λ i o. h.bits i o ∙ g.bits i o;
  bytes = λ k o. h.bytes k o ∙ g.bytes k o;
}

-- two changes, each of them within the same bits
pub kept_within : (xs ys zs : List ℕ) (a b c d s e : ℕ) → s ≤ a → b ≤ e → s ≤ c → d ≤ e → KeptOutside xs ys a b → KeptOutside ys zs c d → KeptOutside xs zs s e
kept_within xs ys zs a b c d s e p q r t g h = kept_both xs ys zs s e (kept_wider xs ys a b s e p q g) (kept_wider ys zs c d s e r t h)

-- the bits of a field decide it
pub field_same : (xs ys : List ℕ) (s w : ℕ) → ((i : ℕ) → s ≤ i → i < s + w → bit xs i ≡ bit ys i) → field xs s w ≡ field ys s w
unfolding field
field_same xs ys s zero h = refl
field_same xs ys s (suc w) h =
    let one = field_same xs ys s w (λ i l k. h i l (omega arith)) in
    let two = h (s + w) (omega arith) (omega arith) in
    omega (arith, one, two)

-- a field that lies before or behind the change is kept
pub field_kept : (xs ys : List ℕ) (s e a w : ℕ) → KeptOutside xs ys s e → (a + w ≤ s) ⊎ (e ≤ a) → field ys a w ≡ field xs a w
field_kept xs ys s e a w h o = field_same ys xs a w (λ i l k. h.bits i (elim o [ inl p ↦ inl (omega arith) | inr p ↦ inr (omega arith) ]))

-- a field that was written, where v fits its width and nothing changed it after
pub field_written : (xs ys zs : List ℕ) (s w v a e : ℕ) → Wrote xs ys s w v → s + w ≤ 8 * length xs → v < 2 ^ w → KeptOutside ys zs a e → s + w ≤ a → field zs s w ≡ v
field_written xs ys zs s w v a e h room l k b = field_kept ys zs a e s w k (inl b) ∙ h.whole room ∙ mod-eq_of_lt l

-- a signed number that was written and fits its width is read again
pub signed_written : (xs ys : List ℕ) (s w : ℕ) (z : ℤ) → Wrote xs ys s w (unsigned w z) → InRange w z → s + w ≤ 8 * length xs → signed w (field ys s w) ≡ z
signed_written xs ys s w z h r room = ap (signed w) (h.whole room ∙ mod-eq_of_lt (unsigned_lt w z)) ∙ signed_unsigned w z r

-- one bit

-- one bit of a byte turned over: another bit stays, and this one, where it was not v, is v
flip_other : (b j k : ℕ) → j < 8 → k < 8 → (j ≡ k → ⊥) → bit_of (bit_xor b (2 ^ (7 - k))) j ≡ bit_of b j
unfolding bit_of
flip_other b j k p q h = let other = bit_at-pow_other (7 - k) (7 - j) (λ e. h (omega arith)) in omega (arith, other, bit_at_xor b (2 ^ (7 - k)) (7 - j), bit_at-lt b (7 - j))

flip_same : (b k v : ℕ) → v < 2 → (bit_of b k ≡ v → ⊥) → bit_of (bit_xor b (2 ^ (7 - k))) k ≡ v
unfolding bit_of
flip_same b k v l h = omega (arith, h, bit_at_xor b (2 ^ (7 - k)) (7 - k), bit_at-pow_same (7 - k), bit_at-lt b (7 - k))

-- a field of one bit is that bit
wrote_one : (xs ys : List ℕ) (at v : ℕ) → v < 2 → KeptOutside xs ys at (at + 1) → (at < 8 * length xs → bit ys at ≡ v) → Wrote xs ys at 1 v
unfolding field
wrote_one xs ys at v l k p = record {
  kept = k;
  each = λ i h room.
      let e : i ≡ 0 = omega arith in
      let f : at + i ≡ at = omega arith in
      let g : v / 2 ^ 0 % 2 ≡ v = ap (λ n. n % 2) (div_one v) ∙ mod-eq_of_lt l in
      ap (bit ys) f ∙ p (omega arith) ∙ sym (ap (λ n. v / 2 ^ (1 - 1 - n) % 2) e ∙ g);
  whole = λ room. let f : bit ys (at + 0) ≡ bit ys at = ap (bit ys) (omega arith) in omega (arith, p (omega arith), mod-eq_of_lt l, f);
}
  where
    div_one : (n : ℕ) → n / 1 ≡ n
    div_one n = omega arith

-- a bit that is already as it should be, or past the end
pub wrote_kept : (xs : List ℕ) (at v : ℕ) → v < 2 → (at < 8 * length xs → bit xs at ≡ v) → Wrote xs xs at 1 v
wrote_kept xs at v l p = wrote_one xs xs at v l (kept_none xs at (at + 1)) p

-- a bit that is turned over
pub wrote_flip : (xs : List ℕ) (at v : ℕ) → at / 8 < length xs → v < 2 → (bit xs at ≡ v → ⊥)
    → Wrote xs (set xs (at / 8) (bit_xor (get_or xs (at / 8) 0) ((1 * 2 ^ (7 - at % 8)) % 256))) at 1 v
unfolding bit
wrote_flip xs at v l k h = turned (bit_xor (get_or xs (at / 8) 0) ((1 * 2 ^ (7 - at % 8)) % 256)) (ap (bit_xor (get_or xs (at / 8) 0)) (one_shl (7 - at % 8) 8 (omega arith)))
  where
    turned : (new : ℕ) → new ≡ bit_xor (get_or xs (at / 8) 0) (2 ^ (7 - at % 8)) → Wrote xs (set xs (at / 8) new) at 1 v
    turned new is =
        let ys : List ℕ = set xs (at / 8) new in
        let here : get_or ys (at / 8) 0 ≡ bit_xor (get_or xs (at / 8) 0) (2 ^ (7 - at % 8)) = get_or-set_same xs (at / 8) new 0 l ∙ is in
        let others : (i : ℕ) → (i ≡ at → ⊥) → bit ys i ≡ bit xs i = λ i ne. elim (cases_eq (i / 8) (at / 8)) [
          | inl e ↦
              ap (λ n. bit_of (get_or ys n 0) (i % 8)) e
              ∙ ap (λ b. bit_of b (i % 8)) here
              ∙ flip_other (get_or xs (at / 8) 0) (i % 8) (at % 8) (omega arith) (omega arith) (λ f. ne (omega arith))
              ∙ sym (ap (λ n. bit_of (get_or xs n 0) (i % 8)) e)
          | inr e ↦ ap (λ b. bit_of b (i % 8)) (get_or-set_other xs (at / 8) (i / 8) new 0 e)
        ] in
        wrote_one xs ys at v k (record {
          long = length-set xs (at / 8) new;
          bits = λ i o. others i (λ q. elim o [ inl p ↦ omega arith | inr p ↦ omega arith ]);
          bytes = λ j o. get_or-set_other xs (at / 8) j new 0 (λ q. elim o [ inl p ↦ omega arith | inr p ↦ omega arith ]);
        }) (λ _. ap (λ b. bit_of b (at % 8)) here ∙ flip_same (get_or xs (at / 8) 0) (at % 8) v k h)

-- a field, bit by bit

-- the field whose bits are those of v
pub field_of_bits : (xs : List ℕ) (s w v : ℕ) → ((i : ℕ) → i < w → bit xs (s + i) ≡ v / 2 ^ (w - 1 - i) % 2) → field xs s w ≡ v % 2 ^ w
field_of_bits xs s zero v h = field_none xs s ∙ omega arith
field_of_bits xs s (suc w) v h =
    let front = field_of_bits xs s w (v / 2 ^ 1) (λ i l. h i (omega arith) ∙ sym (ap (λ n. n % 2) (shr-shr v 1 (w - 1 - i) ∙ ap (λ n. v / 2 ^ n) (shifted i l)))) in
    let last : bit xs (s + w) ≡ v % 2 = h w (omega arith) ∙ ap (λ n. v / 2 ^ n % 2) none ∙ ap (λ n. n % 2) (div_one v) in
    let e : suc w ≡ w + 1 = omega arith in
    let f : v % 2 ^ suc w ≡ v % 2 ^ (w + 1) = ap (λ n. v % 2 ^ n) e in
    ap (field xs s) e ∙ field_more xs s w ∙ omega (arith, front, last, mod-pow-add v w 1, f)
  where
    shifted : (i : ℕ) → i < w → 1 + (w - 1 - i) ≡ suc w - 1 - i
    shifted i l = omega arith

    none : suc w - 1 - w ≡ 0
    none = omega arith

    div_one : (n : ℕ) → n / 1 ≡ n
    div_one n = omega arith

-- the first i of w bits are written
pub record Writing (xs ys : List ℕ) (s w v i : ℕ) : Type 0 where
  pub kept : KeptOutside xs ys s (s + i)
  pub each : (j : ℕ) → j < i → s + j < 8 * length xs → bit ys (s + j) ≡ v / 2 ^ (w - 1 - j) % 2

pub writing_none : (xs : List ℕ) (s w v : ℕ) → Writing xs xs s w v 0
writing_none xs s w v = record { kept = kept_none xs s (s + 0); each = λ j l _. absurd (omega arith) }

-- one bit more
pub writing_more : (xs ys zs : List ℕ) (s w v i b : ℕ) → Writing xs ys s w v i → b ≡ bit_and (v / 2 ^ (w - 1 - i)) 1 → Wrote ys zs (s + i) 1 b → Writing xs zs s w v (i + 1)
writing_more xs ys zs s w v i b h e z = record {
  kept = kept_within xs ys zs s (s + i) (s + i) (s + i + 1) s (s + (i + 1)) (omega arith) (omega arith) (omega arith) (omega arith) h.kept z.kept;
  each = λ j l room. elim (cases_eq j i) [ inl f ↦ here j f room | inr f ↦ z.kept.bits (s + j) (inl (omega arith)) ∙ h.each j (omega arith) room ];
}
  where
    low : (n : ℕ) → bit_and n 1 / 2 ^ 0 % 2 ≡ n % 2
    low n = let m : bit_and n 1 ≡ n % 2 = and_mask n 1 in omega (arith, m)

    here : (j : ℕ) → j ≡ i → s + j < 8 * length xs → bit zs (s + j) ≡ v / 2 ^ (w - 1 - j) % 2
    here j f room =
        let p : bit zs (s + i + 0) ≡ b / 2 ^ 0 % 2 = z.each 0 (omega arith) (omega (arith, h.kept.long)) in
        let q : s + j ≡ s + i + 0 = omega arith in
        ap (bit zs) q ∙ p ∙ ap (λ n. n / 2 ^ 0 % 2) e ∙ low (v / 2 ^ (w - 1 - i)) ∙ ap (λ n. v / 2 ^ (w - 1 - n) % 2) (sym f)

-- all of them are
pub writing_all : (xs ys : List ℕ) (s w v i : ℕ) → i ≡ w → Writing xs ys s w v i → Wrote xs ys s w v
writing_all xs ys s w v i e h = record {
  kept = kept_wider xs ys s (s + i) s (s + w) (omega arith) (omega arith) h.kept;
  each = λ j l room. h.each j (omega arith) room;
  whole = λ room. field_of_bits ys s w v (λ j l. h.each j (omega arith) (omega arith));
}

-- before the first bit and after the last
pub ruleset bit_by_bit = (writing_none, writing_all)
