-- A sheet as 14 bytes: permission, count, six entries of 2 bytes.
use Rattle.std.specs.Prelude.{ℕ, List, [], ◌∷◌, drop, get_or}
use Rattle.sheet.specs.declared.Sheet.{Sheet}
use Rattle.sheet.specs.Events.{Event, called}

-- the sheet's bytes
abbrev pub bytes_of : Sheet → List ℕ
bytes_of s = s.permission ∷ s.count ∷ s.entries

-- the sheet that 14 bytes are
abbrev pub sheet_of : List ℕ → Sheet
sheet_of bytes = record { permission = get_or bytes 0 0; count = get_or bytes 1 0; entries = drop 2 bytes }

-- the 14 bytes that the calls leave, one event after the other
unfoldable pub bytes_after_all : List ℕ → List Event → List ℕ
bytes_after_all bytes [] = bytes
bytes_after_all bytes (e ∷ es) = bytes_after_all (bytes_of (called (sheet_of bytes) e).sheet) es
