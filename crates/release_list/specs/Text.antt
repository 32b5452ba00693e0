-- What the program prints: a line for each permission and the count, or the refusal.
use Rattle.std.specs.Prelude.{ℕ, ◌+◌, ◌*◌, ◌/◌, ◌%◌, ◌<◌, ◌≤◌, cond, ◌≡◌, List, [], ◌∷◌, ◌++◌, length, get_or}
use Rattle.std.specs.Prelude.{take, drop, ltb, eqb}
use Prim.Native.Char.{code}
use Prim.Native.String.{String, [] as empty, ◌∷◌ as ◌then◌}
use Rattle.folds.specs.Below.{join_below}
use Rattle.reader.specs.Bytes.{word16}
use Rattle.reader.specs.Tables.{permission_count}
use Rattle.weights.specs.declared.Context.{Context}
use Rattle.decision.specs.Decision.{decision_of}
use Rattle.decision.specs.Groups.{entry_count, entry_user, entry_role}
use Rattle.report.specs.Smallest.{smallest_of}
use Rattle.report.specs.Report.{report_refusal, releasable, ShownFor}

-- the characters of a text as bytes, in ASCII
abbrev pub ascii : String → List ℕ
ascii empty = []
ascii (c then s) = code c ∷ ascii s

-- the digit d
abbrev pub digit : ℕ → ℕ
digit d = code "0" + d

-- a number below 1000 in decimal, without a leading zero
unfoldable pub decimal : ℕ → List ℕ
decimal n =
    cond (ltb n 10) (digit n ∷ [])
    (cond (ltb n 100) (digit (n / 10) ∷ digit (n % 10) ∷ [])
    (digit (n / 100) ∷ digit (n / 10 % 10) ∷ digit (n % 10) ∷ []))

-- user/role, behind a blank
unfoldable pub entry_text : ℕ → ℕ → List ℕ
entry_text user role = ascii " " ++ (decimal user ++ (ascii "/" ++ decimal role))

-- entry i of a group
abbrev pub entry_at : List ℕ → ℕ → List ℕ
entry_at g i = entry_text (entry_user g i) (entry_role g i)

-- the entries of a group by rising user; a user is a byte
unfoldable pub entries_text : List ℕ → List ℕ
entries_text g = join_below 256 (λ u. join_below (entry_count g) (λ i. cond (eqb (entry_user g i) u) (entry_at g i) []))

-- the line of permission p: its number, the number k of approvers, the entries of the group shown
unfoldable pub line_text : ℕ → ℕ → List ℕ → List ℕ
line_text p k g = ascii "permission " ++ (decimal p ++ (ascii ": " ++ (decimal k ++ (entries_text g ++ ascii "\n"))))

-- a line of words and a number
unfoldable pub count_text : List ℕ → ℕ → List ℕ
count_text words n = words ++ (decimal n ++ ascii "\n")

-- the last line: how many permissions have a number of approvers above 0
abbrev pub releasable_text : ℕ → List ℕ
releasable_text n = count_text (ascii "releasable ") n

-- a refusal is the single line
abbrev pub refused_text : ℕ → List ℕ
refused_text n = count_text (ascii "refused ") n

-- the refusal of the report on a base, or 0: the program lends it a buffer that suffices, so 19 never applies
abbrev pub refusal_for : List ℕ → Context → ℕ
refusal_for b at = report_refusal b at (13 * permission_count b)

-- a report as text, with the group chosen for each permission
unfoldable pub report_text : List ℕ → Context → (ℕ → List ℕ) → List ℕ
report_text b at chosen =
    cond (eqb (refusal_for b at) 0)
    (join_below (permission_count b) (λ p. line_text p (smallest_of b at p) (chosen p))
    ++ releasable_text (releasable (decision_of b at) (permission_count b)))
    (refused_text (refusal_for b at))

-- the input: minute (2 bytes), day, zone (1 byte each), date (2 bytes), and then a base
unfoldable pub context_of : List ℕ → Context
context_of input =
    record { minute = word16 input 0; day = get_or input 2 0; zone = get_or input 3 0; date = word16 input 4 }

abbrev pub base_of : List ℕ → List ℕ
base_of input = drop 6 input

-- what the program prints for an input
unfoldable pub listing_text : List ℕ → (ℕ → List ℕ) → List ℕ
listing_text input chosen =
    cond (ltb (length input) 6) (refused_text 1) (report_text (base_of input) (context_of input) chosen)

-- the text for an input stands in the first n bytes of `after`, which held `out`; the choice of group is the report's
pub record Listed (input out after : List ℕ) (n : ℕ) : Type 0 where
  pub chosen : ℕ → List ℕ
  pub shown : 6 ≤ length input → refusal_for (base_of input) (context_of input) ≡ 0 →
      (p : ℕ) → p < permission_count (base_of input) → ShownFor (decision_of (base_of input) (context_of input)) p
      (chosen p)
  pub size : n ≡ length (listing_text input chosen)
  pub bytes : after ≡ listing_text input chosen ++ drop n out

-- the promise of the listing: `input` is the program's buffer, and reading gave its first `read` bytes. Whatever the
-- whole standard input is, however long, if these are its first bytes, as many as the buffer holds or all, then the
-- text for the whole is what is printed.
pub record WholeListed (input : List ℕ) (read : ℕ) (out after : List ℕ) (n : ℕ) : Type 0 where
  pub listed : (whole : List ℕ) → take (length input) whole ≡ take read input → Listed whole out after n
