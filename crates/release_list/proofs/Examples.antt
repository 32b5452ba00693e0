-- The paper's two lines, the edges of the others, and the parts of an input, by the definitions.
use Prim.Native.Nat.{ℕ}
use mathlib.Core.Path.{◌≡◌, refl}
use mathlib.Core.List.{List, [], ◌∷◌, ◌++◌}
use Rattle.reader.specs.Bytes.{word16}
use Rattle.folds.specs.Below.{join_below}
use Rattle.release_list.specs.Text.{ascii, decimal, entry_text, entries_text, line_text, count_text}
use Rattle.release_list.specs.Text.{releasable_text, refused_text, context_of, base_of, listing_text}

-- minute 480 is 224 + 256, date 20,000 is 32 + 256 * 78; behind them a base of one byte
abbrev input : List ℕ
input = 224 ∷ 1 ∷ 6 ∷ 255 ∷ 32 ∷ 78 ∷ 9 ∷ []

pub context_read : context_of input ≡ record { minute = 480; day = 6; zone = 255; date = 20000 }
unfolding context_of word16
context_read = refl

pub base_read : base_of input ≡ 9 ∷ []
base_read = refl

-- five bytes are no context
pub five_bytes : (chosen : ℕ → List ℕ) → listing_text (224 ∷ 1 ∷ 6 ∷ 255 ∷ 32 ∷ []) chosen ≡ ascii "refused 1\n"
unfolding listing_text count_text decimal
five_bytes chosen = refl

pub small_shop : line_text 0 2 (0 ∷ 0 ∷ 1 ∷ 1 ∷ []) ++ releasable_text 1
    ≡ ascii "permission 0: 2 0/0 1/1\nreleasable 1\n"
unfolding line_text entries_text entry_text count_text decimal join_below
small_shop = refl

-- no group, and no blank
pub no_group : line_text 15 0 [] ≡ ascii "permission 15: 0\n"
unfolding line_text entries_text entry_text decimal join_below
no_group = refl

-- by rising user, however the group stands
pub by_user : line_text 3 3 (23 ∷ 7 ∷ 9 ∷ 0 ∷ 10 ∷ 1 ∷ []) ≡ ascii "permission 3: 3 9/0 10/1 23/7\n"
unfolding line_text entries_text entry_text decimal join_below
by_user = refl

pub refused : refused_text 11 ≡ ascii "refused 11\n"
unfolding count_text decimal
refused = refl

pub three_digits : decimal 100 ++ decimal 255 ≡ ascii "100255"
unfolding decimal
three_digits = refl
