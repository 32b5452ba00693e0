-- The worked lists: by computing both sides.
use mathlib.Core.Path.{refl}
use Rattle.reader.specs.Bytes.{word16}
use Rattle.resolution.specs.Resolution.{rule_before, goes_before, list_refused}
use Rattle.weights.specs.Weights.{chosen}
use Rattle.shop.specs.Resolved.{table, Resolved}

pub resolved : Resolved
unfolding table word16 rule_before goes_before chosen list_refused
resolved = record {
  later = record { forth = refl; back = refl };
  larger = record { forth = refl; back = refl };
  lighter = record { forth = refl; back = refl };
  second = record { forth = refl; back = refl };
  level = record { forth = refl; back = refl };
  none = record { in_own = refl; in_inh = refl };
  day = record { legal = refl; counts = record { in_own = refl; in_inh = refl } };
  rank = record { legal = refl; counts = record { in_own = refl; in_inh = refl } };
  weight = record { legal = refl; counts = record { in_own = refl; in_inh = refl } };
  day_rank = record { legal = refl; counts = record { in_own = refl; in_inh = refl } };
  day_weight = record { legal = refl; counts = record { in_own = refl; in_inh = refl } };
  rank_day = record { legal = refl; counts = record { in_own = refl; in_inh = refl } };
  rank_weight = record { legal = refl; counts = record { in_own = refl; in_inh = refl } };
  weight_day = record { legal = refl; counts = record { in_own = refl; in_inh = refl } };
  weight_rank = record { legal = refl; counts = record { in_own = refl; in_inh = refl } };
  day_rank_weight = record { legal = refl; counts = record { in_own = refl; in_inh = refl } };
  day_weight_rank = record { legal = refl; counts = record { in_own = refl; in_inh = refl } };
  rank_day_weight = record { legal = refl; counts = record { in_own = refl; in_inh = refl } };
  rank_weight_day = record { legal = refl; counts = record { in_own = refl; in_inh = refl } };
  weight_day_rank = record { legal = refl; counts = record { in_own = refl; in_inh = refl } };
  weight_rank_day = record { legal = refl; counts = record { in_own = refl; in_inh = refl } };
  empty = refl;
  four = refl;
  twice = refl;
  first_and_last = refl;
  last_two = refl;
  three = refl;
  three_behind = refl;
  largest = refl;
}
