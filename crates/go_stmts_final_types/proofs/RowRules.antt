-- The parts of a rule, one by one.
use Rattle.go_grammar.specs.declared.kind.Category.{Category}
use Rattle.go_grammar.specs.declared.kind.Category.TheVariants as category
use Rattle.go_grammar.specs.Rules.{Rule, End, Then, Maybe, Unless, Many, item}
use Rattle.go_grammar.specs.Trees.{Tree, Trees, more, skip}
use Rattle.go_stmts_final_types.specs.Shapes.{IsShaped, AreShaped}

-- the category of the next part, if there is one
abbrev pub front : Rule → Category
front (Then ws c r) = c
front (Maybe ws c r) = c
front (Unless ws c us r) = c
front (Many ws l) = item l
front (End ws) = category.File

-- the rule of those behind it
abbrev pub behind_front : Rule → Rule
behind_front (Then ws c r) = r
behind_front (Maybe ws c r) = r
behind_front (Unless ws c us r) = r
behind_front (Many ws l) = Many ws l
behind_front (End ws) = End ws

pub shaped_front : (r : Rule) (p : Tree) (ps : Trees) → AreShaped r (more p ps) → IsShaped (front r) p
shaped_front (Then ws c r) p ps w = w.0
shaped_front (Maybe ws c r) p ps w = w.0
shaped_front (Unless ws c us r) p ps w = w.0
shaped_front (Many ws l) p ps w = w.0
shaped_front (End ws) p ps w = elim w [ ]

pub shaped_behind : (r : Rule) (p : Tree) (ps : Trees) → AreShaped r (more p ps) → AreShaped (behind_front r) ps
shaped_behind (Then ws c r) p ps w = w.1
shaped_behind (Maybe ws c r) p ps w = w.1
shaped_behind (Unless ws c us r) p ps w = w.1
shaped_behind (Many ws l) p ps w = w.1
shaped_behind (End ws) p ps w = elim w [ ]

pub shaped_skip : (r : Rule) (ps : Trees) → AreShaped r (skip ps) → AreShaped (behind_front r) ps
shaped_skip (Then ws c r) ps w = elim w [ ]
shaped_skip (Maybe ws c r) ps w = w
shaped_skip (Unless ws c us r) ps w = w
shaped_skip (Many ws l) ps w = elim w [ ]
shaped_skip (End ws) ps w = elim w [ ]
