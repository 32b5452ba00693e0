-- How long the texts are.
use Prim.Native.Nat.{ℕ, ◌+◌}
use mathlib.Core.Path.{◌≡◌}
use mathlib.Core.List.{List}
use native.Mathlib.Omega.{arith}
use lib.ListN.{length, length-append}
use Rattle.release_list.specs.Text.{decimal, count_text, entry_text, entries_text, line_text}

pub count_length : (words : List ℕ) (n : ℕ) → length (count_text words n) ≡ length words + length (decimal n) + 1
unfolding count_text
count_length words n = simp length-append (omega arith)

pub entry_length : (user role : ℕ) → length (entry_text user role) ≡ length (decimal user) + length (decimal role) + 2
unfolding entry_text
entry_length user role = simp length-append (omega arith)

pub line_length : (p k : ℕ) (g : List ℕ) →
    length (line_text p k g) ≡ length (decimal p) + length (decimal k) + length (entries_text g) + 14
unfolding line_text
line_length p k g = simp length-append (omega arith)
