-- Document 01, "The list of demand 3": "After one accepted opening come calls that split, grow or read, none or more, in any sequence, accepted or refused;
-- refused openings may be among them.": the list, the tables that each of its calls is lent, and the tables and the history after it.
use Rattle.std.specs.Prelude.{◌≡◌, true, List, [], ◌∷◌}
use Rattle.tables.specs.Tables.{Tree}
use Rattle.demand.specs.History.{Node}
use Rattle.demand.specs.Calls.{Call, is_opening, answer_to, refusal, tree_after, history_after}

-- a call of the list, by what it is lent: the tables of the tree, as the call before left them; or other tables, of which any may be the tree's or a part of
-- them
pub data Listed : Type 0 where
  own : Call → Listed
  other : Tree → Call → Listed

-- a call that is lent these tables is refused
abbrev pub Refused : Call → Tree → Type 0
Refused c t = refusal (answer_to c t) ≡ 0 → ⊥

-- "After one accepted opening": an opening that is lent the tree's tables is refused. So is a call that is lent other tables, and it leaves them as they
-- were: then so are the tree's, where the others are a part of them.
abbrev pub Allowed : Listed → Tree → Type 0
Allowed (own c) t = is_opening c ≡ true → Refused c t
Allowed (other u c) t = Refused c u × (tree_after c u ≡ u)

-- the tree's tables after a call of the list
abbrev pub tables_after : Listed → Tree → Tree
tables_after (own c) t = tree_after c t
tables_after (other u c) t = t

abbrev pub nodes_after : Listed → Tree → List Node → List Node
nodes_after (own c) t H = history_after c t H
nodes_after (other u c) t H = H

-- ---- the whole list
-- all its calls are allowed
abbrev pub AllAllowed : List Listed → Tree → Type 0
AllAllowed [] t = Unit {0}
AllAllowed (c ∷ cs) t = Allowed c t × AllAllowed cs (tables_after c t)

-- the tree's tables after it
abbrev pub tables_after_all : List Listed → Tree → Tree
tables_after_all [] t = t
tables_after_all (c ∷ cs) t = tables_after_all cs (tables_after c t)

-- the history after it, where H is the history before
abbrev pub nodes_after_all : List Listed → Tree → List Node → List Node
nodes_after_all [] t H = H
nodes_after_all (c ∷ cs) t H = nodes_after_all cs (tables_after c t) (nodes_after c t H)
