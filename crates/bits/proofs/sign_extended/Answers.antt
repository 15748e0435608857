-- What is left to show of `sign_extended`: the upper half of the values.
use Rattle.std.proofs.Common.{◌*◌, ◌^◌, ◌≤◌, arith}
use Rattle.std.proofs.lemmas.Nat.{one_shl}
use Rattle.std.proofs.lemmas.Int.{ints}
use Rattle.bits.proofs.Signs.{pow_signed, signed_high}
use Rattle.bits.proofs.sign_extended.Goals as goal

pub returns-else-value-modulus : goal.returns-else-value-modulus
returns-else-value-modulus c =
    let w = c.args.width in
    let top = pow_signed w (omega arith) in
    let one = one_shl w 64 (omega arith) in
    let half : 2 ^ w ≤ c.args.bits * 2 = grind (arith, ints) in
    omega (arith, ints, signed_high w c.args.bits half)
