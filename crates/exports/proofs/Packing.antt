-- A number carries the answer that it was packed from.
use Prim.Native.Nat.{◌+◌, ◌*◌, ◌/◌, ◌%◌, ◌<◌}
use mathlib.Core.Path.{◌≡◌}
use native.Mathlib.Omega.{arith}
use Rattle.reader.specs.declared.Answer.{Answer}
use Rattle.exports.specs.Packed.{packed, unpacked}

pub unpacked_packed : (a : Answer) → a.refusal < 256 → unpacked (packed a) ≡ a
unpacked_packed a l =
    let refusal : (a.refusal + 256 * a.count) % 256 ≡ a.refusal = omega arith in
    let count : (a.refusal + 256 * a.count) / 256 ≡ a.count = omega arith in
    rw (refusal, count)
