-- `words::le::u16_at` meets its contract: two bytes hold a number of 16 bits. Assumes nothing.
use Prim.Native.Nat.{◌+◌}
use mathlib.Core.Path.{refl}
use native.Mathlib.Omega.{arith}
use Rattle.spec.proofs.Bytes.{part_number_lt}
use Rattle.words.proofs.le.u16_at.Goals as goal

pub overflow_cast-result : goal.overflow_cast-result
overflow_cast-result c =
    let a = c.args in
    let below = part_number_lt 2 a.i (a.i + 2) a.s.now (λ k. (c.type_inv.s k).fits) refl (omega arith) in
    record { fits = rw c.read.ensures below }
