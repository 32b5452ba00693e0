-- The small shop of document 01 byte by byte, and the contexts, groups and changed bases of its marked cases.
use Rattle.std.specs.Prelude.{ℕ, ◌/◌, ◌%◌, List, [], ◌∷◌, ◌++◌, set}
use Rattle.reader.specs.Tables.{part_of}
use Rattle.weights.specs.declared.Context.{Context}

-- the base of the small shop: R = 3, no exclusion
unfoldable pub shop : List ℕ
shop =
    -- H, from 0: 0 over 1, 1 over 2
    0 ∷ 1 ∷ 1 ∷ 2 ∷
    -- U, from 4: users 0 to 3: 3, 5, 7, 7, each with days 0 and 65535
    3 ∷ 0 ∷ 0 ∷ 0 ∷ 0 ∷ 0 ∷ 255 ∷ 255 ∷
    5 ∷ 0 ∷ 0 ∷ 0 ∷ 0 ∷ 0 ∷ 255 ∷ 255 ∷
    7 ∷ 0 ∷ 0 ∷ 0 ∷ 0 ∷ 0 ∷ 255 ∷ 255 ∷
    7 ∷ 0 ∷ 0 ∷ 0 ∷ 0 ∷ 0 ∷ 255 ∷ 255 ∷
    -- P, from 36: one permission (1, 1)
    1 ∷ 1 ∷
    -- K, from 38: its one clause, of two conditions: attribute 0 >= 2 and attribute 1 >= 5
    0 ∷ 2 ∷ 0 ∷ 2 ∷ 2 ∷ 1 ∷ 2 ∷ 5 ∷ 0 ∷ 0 ∷ 0 ∷ 0 ∷ 0 ∷ 0 ∷ 0 ∷ 0 ∷
    -- C, from 54: context 0, two conditions: minute >= 540 (28 + 256 * 2) and minute <= 1020 (252 + 256 * 3)
    0 ∷ 2 ∷ 0 ∷ 2 ∷ 28 ∷ 2 ∷ 0 ∷ 3 ∷ 252 ∷ 3 ∷ 0 ∷ 0 ∷ 0 ∷ 0 ∷ 0 ∷ 0 ∷
    -- A, from 70: manager weight 3, type 0, none; buyer 1, type 1, none; clerk 1, type 1, context 0
    0 ∷ 0 ∷ 3 ∷ 0 ∷ 255 ∷ 0 ∷ 0 ∷ 0 ∷ 1 ∷ 0 ∷ 1 ∷ 1 ∷ 255 ∷ 0 ∷ 0 ∷ 0 ∷ 2 ∷ 0 ∷ 1 ∷ 1 ∷ 0 ∷ 0 ∷ 0 ∷ 0 ∷
    -- the trailer, from 94: offset and record count of H, U, P, K, C, A, X
    0 ∷ 0 ∷ 2 ∷ 0 ∷ 4 ∷ 0 ∷ 4 ∷ 0 ∷ 36 ∷ 0 ∷ 1 ∷ 0 ∷ 38 ∷ 0 ∷ 1 ∷ 0 ∷ 54 ∷ 0 ∷ 1 ∷ 0 ∷ 70 ∷ 0 ∷ 3 ∷ 0 ∷ 94 ∷ 0 ∷ 0 ∷ 0 ∷
    -- R, three zero bytes, LCAQ
    3 ∷ 0 ∷ 0 ∷ 0 ∷ 76 ∷ 67 ∷ 65 ∷ 81 ∷ []

-- its roles
abbrev pub manager : ℕ
manager = 0

abbrev pub buyer : ℕ
buyer = 1

abbrev pub clerk : ℕ
clerk = 2

-- its permission
abbrev pub permission : ℕ
permission = 0

-- the context of minute m, day d, zone z and date t
abbrev pub at : ℕ → ℕ → ℕ → ℕ → Context
at m d z t = record { minute = m; day = d; zone = z; date = t }

-- groups: user and role acted in of each entry
abbrev pub manager_alone : List ℕ
manager_alone = 0 ∷ manager ∷ []

-- the clerk is user 2 or user 3
abbrev pub manager_and_clerk : ℕ → List ℕ
manager_and_clerk u = 0 ∷ manager ∷ u ∷ clerk ∷ []

abbrev pub buyer_and_clerks : List ℕ
buyer_and_clerks = 1 ∷ buyer ∷ 2 ∷ clerk ∷ 3 ∷ clerk ∷ []

abbrev pub user0_twice : List ℕ
user0_twice = 0 ∷ manager ∷ 0 ∷ manager ∷ []

abbrev pub user2_as_buyer : List ℕ
user2_as_buyer = 2 ∷ buyer ∷ []

-- the shop with x, below 256, as the parameter of user 3, whose 4 bytes stand from 28
unfoldable pub with_parameter : ℕ → List ℕ
unfolding shop
with_parameter x = set shop 28 x

-- a C record of context number n with one condition: the minute stands to v as operator o says
abbrev on_minute : ℕ → ℕ → ℕ → List ℕ
on_minute n o v = n ∷ 1 ∷ 0 ∷ o ∷ v % 256 ∷ v / 256 ∷ 0 ∷ 0 ∷ 0 ∷ 0 ∷ 0 ∷ 0 ∷ 0 ∷ 0 ∷ 0 ∷ 0 ∷ []

-- context numbers by their one clause: minute <= 600, minute >= 600, minute < 600, minute < 0
abbrev pub up_to600 : ℕ
up_to600 = 0

abbrev pub from600 : ℕ
from600 = 1

abbrev pub before600 : ℕ
before600 = 2

abbrev pub before0 : ℕ
before0 = 3

-- the shop with these four clauses as its table C
unfoldable pub edges : List ℕ
unfolding shop
edges =
    -- H, U, P and K of the shop
    part_of shop 0 54
    -- C, from 54
    ++ on_minute up_to600 3 600
    ++ on_minute from600 2 600
    ++ on_minute before600 1 600
    ++ on_minute before0 1 0
    -- A of the shop, from 118
    ++ part_of shop 70 24
    -- the trailer, from 142
    ++ (0 ∷ 0 ∷ 2 ∷ 0 ∷ 4 ∷ 0 ∷ 4 ∷ 0 ∷ 36 ∷ 0 ∷ 1 ∷ 0 ∷ 38 ∷ 0 ∷ 1 ∷ 0 ∷
    54 ∷ 0 ∷ 4 ∷ 0 ∷ 118 ∷ 0 ∷ 3 ∷ 0 ∷ 142 ∷ 0 ∷ 0 ∷ 0 ∷
    3 ∷ 0 ∷ 0 ∷ 0 ∷ 76 ∷ 67 ∷ 65 ∷ 81 ∷ [])
