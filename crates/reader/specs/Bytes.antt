-- Numbers in bytes: little-endian and unsigned.
use Rattle.std.specs.Prelude.{ℕ, ◌+◌, ◌*◌, List, get_or}

-- the number in the 2 bytes from place i
unfoldable pub word16 : List ℕ → ℕ → ℕ
word16 b i = get_or b i 0 + 256 * get_or b (i + 1) 0

-- the number in the 4 bytes from place i
unfoldable pub word32 : List ℕ → ℕ → ℕ
word32 b i = get_or b i 0 + 256 * get_or b (i + 1) 0 + 65536 * get_or b (i + 2) 0 + 16777216 * get_or b (i + 3) 0
