-- Document 01, "History to curves": the record, which is document 01's term: count, sum and sum of squares of the errors of each of the twenty-four groups.
-- Other definitions speak of the group at g, of the record with the group at g replaced, and of the groups in order; the layout for hosts lists the groups.
use Rattle.std.specs.Prelude.{ℕ, zero, suc, List, [], ◌∷◌, pos, get_or, set, replicate}
use Rattle.curve_record.specs.declared.Group.{Group}
use Rattle.curve_record.specs.declared.Record.{Record}

-- a group of no hours
abbrev pub no_hours : Group
no_hours = record { count = 0; sum = pos 0; squares = pos 0 }

-- the group at g; one of no hours where the record holds none
unfoldable pub group_at : Record → ℕ → Group
group_at history g = get_or history.groups g no_hours

-- the record with the group at g replaced; as it was where it holds none there
unfoldable pub with_group : Record → ℕ → Group → Record
with_group history g changed = record { groups = set history.groups g changed }

-- a fresh record is all zeros
unfoldable pub fresh : Record
fresh = record { groups = replicate 24 no_hours }

-- n groups in order, from the group g on
unfoldable pub groups_from : ℕ → ℕ → Record → List Group
groups_from g zero history = []
groups_from g (suc n) history = group_at history g ∷ groups_from (suc g) n history

-- the twenty-four groups in order
abbrev pub all_groups : Record → List Group
all_groups history = groups_from 0 24 history
