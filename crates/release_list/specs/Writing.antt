-- Working notions of the writing functions, which a reader of the promise need not believe; Text.antt is what to
-- believe.
use Rattle.std.specs.Prelude.{ℕ, ◌+◌, ◌*◌, ◌<◌, ◌≤◌, ◌≡◌, List, ◌++◌, length, drop}
use Rattle.std.proofs.lemmas.List.Edits.{sets}
use Rattle.folds.specs.Below.{join_below}
use Rattle.decision.specs.Decision.{decision_of}
use Rattle.decision.specs.Groups.{entry_count, entry_user}
use Rattle.reader.specs.Tables.{permission_count}
use Rattle.weights.specs.declared.Context.{Context}
use Rattle.report.specs.Report.{ShownFor}
use Rattle.report.specs.Demand.{number_for, group_for}
use Rattle.release_list.specs.declared.text.Page.{Page}
use Rattle.release_list.specs.Text.{entry_at, line_text, refusal_for, report_text}

-- the text is stored byte by byte in `out` from place `at` on, which makes it `after`; `next` is the place behind it
pub record Written (text out : List ℕ) (at next : ℕ) (after : List ℕ) : Type 0 where
  pub place : next ≡ at + length text
  pub bytes : after ≡ sets out at text

-- the text has room on the page, behind what stands there
abbrev pub HasRoom : Page → List ℕ → Type 0
HasRoom p text = p.len + length text ≤ length p.out.now

-- the page holds no text, and has room for any report: 768 bytes
abbrev pub IsBlank : Page → Type 0
IsBlank p = (p.len ≡ 0) × (768 ≤ length p.out.now)

-- both pages are of the same buffer
abbrev pub SameBuffer : Page → Page → Type 0
SameBuffer p q = q.out.ghost_name ≡ p.out.ghost_name

-- the text is put on the page, behind what stands there
pub record Put (text : List ℕ) (p q : Page) : Type 0 where
  pub same : SameBuffer p q
  pub written : Written text p.out.now p.len q.len q.out.now

-- the entries of a group in the order in which they stand
unfoldable pub standing_text : List ℕ → List ℕ
standing_text g = join_below (entry_count g) (entry_at g)

-- the users of a group rise strictly
pub record Rising (g : List ℕ) : Type 0 where
  pub rises : (i j : ℕ) → i < j → j < entry_count g → entry_user g i < entry_user g j

-- n parts of 13 bytes, each with at most 6 entries, by rising user
pub record Parts (parts : List ℕ) (n : ℕ) : Type 0 where
  pub size : 13 * n ≤ length parts
  pub few : (p : ℕ) → p < n → number_for parts p ≤ 6
  pub rising : (p : ℕ) → p < n → Rising (group_for parts p)

-- the line of part p
abbrev pub line_at : List ℕ → ℕ → List ℕ
line_at parts p = line_text p (number_for parts p) (group_for parts p)

-- the lines of n parts
unfoldable pub lines_text : List ℕ → ℕ → List ℕ
lines_text parts n = join_below n (line_at parts)

-- the report on a base stands as text in the first n bytes of `after`, which held `out`
pub record ReportListed (b : List ℕ) (at : Context) (out after : List ℕ) (n : ℕ) : Type 0 where
  pub chosen : ℕ → List ℕ
  pub shown : refusal_for b at ≡ 0 → (p : ℕ) → p < permission_count b → ShownFor (decision_of b at) p (chosen p)
  pub size : n ≡ length (report_text b at chosen)
  pub bytes : after ≡ report_text b at chosen ++ drop n out
