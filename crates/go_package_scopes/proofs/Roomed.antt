-- Syntax trees of which each name has the property in its room, and parts of typed trees in other rooms.
use Rattle.std.proofs.Common.{◌≡◌, ℕ, zero, suc, ◌<◌, ◌≤◌, Bool, true, false, [], ◌∷◌, ◌++◌, length, Some, None, refl, sym, subst, arith}
use Rattle.go_grammar.specs.declared.kind.Kind.{Kind}
use Rattle.go_grammar.specs.declared.kind.Kind.TheVariants as kind
use Rattle.go_grammar.specs.declared.kind.Sort.TheVariants as declaring
use Rattle.go_grammar.specs.Categories.{is_expression}
use Rattle.go_grammar.specs.Trees.{Tree, node, Trees, kind_of}
use Rattle.go_grammar.specs.Trees as syntax
use Rattle.go_tree.specs.declared.context.Scope.{Scope as Extent}
use Rattle.go_types.specs.Trees.{TypeTree}
use Rattle.go_typed.specs.declared.form.Form.{Form}
use Rattle.go_typed.specs.declared.form.Form.TheVariants as form
use Rattle.go_typed.specs.Trees.{typed, Typeds, row, first_of, last_of, form_of}
use Rattle.go_typed.specs.Trees as trees
use Rattle.go_exprs_rules.specs.Settling.{Part}
use Rattle.go_exprs_rules.specs.Tables.{Parts}
use Rattle.go_stmts_defs.specs.Reading.{is_statement}
use Rattle.go_stmts_scopes.specs.Standing.{behind_part, room_in}
use Rattle.go_package_scopes.specs.Laid.{is_shut, NameHasRoom, Laid, AllLaid}
use Rattle.go_package_scopes.proofs.Laid.{unless_both, EachLaid, ends}
use Rattle.go_package_scopes.proofs.LaidTypings.{Quiet}

-- ---- kinds

abbrev pub is_ranging : Kind → Bool
is_ranging kind.Range = true
is_ranging kind.AssigningRange = true
is_ranging kind.DefiningRange = true
is_ranging k = false

-- what stands only where more is known of it: range clauses in loops, what declares constants or types, functions, and what holds them
abbrev pub is_apart : Kind → Bool
is_apart kind.Range = true
is_apart kind.AssigningRange = true
is_apart kind.DefiningRange = true
is_apart (kind.Group declaring.Constant) = true
is_apart (kind.Group declaring.Type) = true
is_apart (kind.Specification declaring.Constant) = true
is_apart (kind.Specification declaring.Type) = true
is_apart kind.FunctionDeclaration = true
is_apart kind.File = true
is_apart kind.Imports = true
is_apart kind.Import = true
is_apart kind.ImportPath = true
is_apart kind.ImportGroup = true
is_apart k = false

-- declarations of constants and types hold names alone
abbrev pub is_silent : Kind → Bool
is_silent (kind.Declaration declaring.Constant) = true
is_silent (kind.Declaration declaring.Type) = true
is_silent k = false

abbrev pub is_loop : Kind → Bool
is_loop kind.For = true
is_loop k = false

abbrev pub is_clause : Kind → Bool
is_clause kind.ForClause = true
is_clause kind.InitializedForClause = true
is_clause k = false

abbrev pub behind : ℕ → Extent → Extent
behind j r = record { from = j; to = r.to }

abbrev pub block : ℕ → ℕ → Extent
block i j = record { from = i; to = j }

-- the room of the parts of a statement
abbrev pub room_at : Extent → Kind → ℕ → ℕ → Extent
room_at r kind.Define i j = behind j r
room_at r (kind.Specification declaring.Variable) i j = behind j r
room_at r (kind.Specification declaring.Constant) i j = behind j r
room_at r kind.Block i j = block i j
room_at r kind.If i j = block i j
room_at r kind.Switch i j = block i j
room_at r kind.Case i j = block i j
room_at r kind.Default i j = block i j
room_at r k i j = r

abbrev pub Choice : Bool → Type 0 → Type 0 → Type 0
Choice true A B = A
Choice false A B = B

pub chosen_true : (b : Bool) (A B : Type 0) → b ≡ true → Choice b A B → A
chosen_true true A B e h = h
chosen_true false A B e h = absurd (let z : false ≡ true = e in cc)

pub chosen_false : (b : Bool) (A B : Type 0) → b ≡ false → Choice b A B → B
chosen_false false A B e h = h
chosen_false true A B e h = absurd (let z : true ≡ false = e in cc)

pub choice_of : (b : Bool) (A B : Type 0) → (b ≡ true → A) → (b ≡ false → B) → Choice b A B
choice_of true A B f g = f refl
choice_of false A B f g = g refl

abbrev IsOperand : Tree → Type 0
IsOperand (node k i j ps) = is_expression k ≡ true

-- the last part is an expression
abbrev pub EndsInOperand : Trees → Type 0
EndsInOperand syntax.none = ⊥
EndsInOperand (syntax.more p syntax.none) = IsOperand p
EndsInOperand (syntax.more p ps) = EndsInOperand ps
EndsInOperand (syntax.skip ps) = ⊥

module _ (D : Extent → ℕ → Type 0) where
  abbrev mutual
    -- Each name that the tree declares has the property in its room.
    pub Roomed : Extent → Tree → Type 0
    Roomed r (node k i j ps) = Choice (is_statement k) (Choice (is_silent k) (Unit {0}) (Choice (is_loop k) (LoopRoomed (block i j) ps) (AllRoomed (room_at r k i j) ps))) (Quiet D r i j)

    pub AllRoomed : Extent → Trees → Type 0
    AllRoomed r syntax.none = Unit {0}
    AllRoomed r (syntax.more p ps) = (is_apart (kind_of p) ≡ false) × Roomed r p × AllRoomed r ps
    AllRoomed r (syntax.skip ps) = AllRoomed r ps

    pub LoopRoomed : Extent → Trees → Type 0
    LoopRoomed r syntax.none = ⊥
    LoopRoomed r (syntax.more h ps) = HeaderRoomed r h × BodyRoomed r ps
    LoopRoomed r (syntax.skip ps) = BodyRoomed r ps

    pub HeaderRoomed : Extent → Tree → Type 0
    HeaderRoomed r (node k i j ps) =
        Choice (is_ranging k) (AllRoomed (behind j r) ps × EndsInOperand ps) (Choice (is_clause k) (AllRoomed r ps) ((is_expression k ≡ true) × Quiet D r i j))

    pub BodyRoomed : Extent → Trees → Type 0
    BodyRoomed r (syntax.more b syntax.none) = (kind_of b ≡ kind.Block) × Roomed r b
    BodyRoomed r ps = ⊥

  -- ---- wider rooms

  module _ (mono : (r s : Extent) (n : ℕ) → s.from ≤ r.from → r.to ≤ s.to → D r n → D s n) where
    name_lower : (r s : Extent) (f : Form) (n : ℕ) → s.from ≤ r.from → r.to ≤ s.to → NameHasRoom D r f n → NameHasRoom D s f n
    name_lower r s (form.New k) n u v h = mono r s n u v h
    name_lower r s (form.Declared k) n u v h = mono r s n u v h
    name_lower r s f n u v h = tt

    room_lower : (r s : Extent) (f : Form) (i j : ℕ) (ps : Typeds TypeTree) → s.from ≤ r.from → r.to ≤ s.to → ((room_in s f i j ps).from ≤ (room_in r f i j ps).from) × ((room_in r f i j ps).to ≤ (room_in s f i j ps).to)
    room_lower r s (form.Define n) i j ps u v = (omega arith, v)
    room_lower r s (form.Specified n) i j ps u v = (omega arith, v)
    room_lower r s (form.Range d n) i j ps u v = (omega arith, omega arith)
    room_lower r s form.Block i j ps u v = (omega arith, omega arith)
    room_lower r s form.If i j ps u v = (omega arith, omega arith)
    room_lower r s form.Switch i j ps u v = (omega arith, omega arith)
    room_lower r s (form.Case n) i j ps u v = (omega arith, omega arith)
    room_lower r s form.Default i j ps u v = (omega arith, omega arith)
    room_lower r s form.For i j ps u v = (omega arith, omega arith)
    room_lower r s f i j ps u v = (u, v)

    mutual
      pub lower : (r s : Extent) (a b : ℕ) (x : Part) → s.from ≤ r.from → r.to ≤ s.to → Laid D r a b x → Laid D s a b x
      lower r s a b (typed f i j l ps) u v h =
          let w = room_lower r s f i j ps u v in (
            h.0,
            h.1,
            h.2,
            name_lower r s f i u v h.3,
            unless_both (is_shut f) (AllLaid D (room_in r f i j ps) i j ps) (AllLaid D (room_in s f i j ps) i j ps) (λ g. all_lower (room_in r f i j ps) (room_in s f i j ps) i j ps w.0 w.1 g) h.4,
          )

      all_lower : (r s : Extent) (a b : ℕ) (ps : Typeds TypeTree) → s.from ≤ r.from → r.to ≤ s.to → AllLaid D r a b ps → AllLaid D s a b ps
      all_lower r s a b trees.none u v h = h
      all_lower r s a b (trees.more p ps) u v h = (lower r s a b p u v h.0, all_lower r s (last_of p) b ps u v h.1)
      all_lower r s a b (trees.skip ps) u v h = all_lower r s a b ps u v h

    pub each_lower : (r s : Extent) (a b : ℕ) (xs : Parts) → s.from ≤ r.from → r.to ≤ s.to → EachLaid D r a b xs → EachLaid D s a b xs
    each_lower r s a b [] u v h = h
    each_lower r s a b (None ∷ xs) u v h = each_lower r s a b xs u v h
    each_lower r s a b (Some x ∷ xs) u v h = (lower r s a b x u v h.0, each_lower r s (last_of x) b xs u v h.1)

  -- a block makes its own room
  pub any_block : (r s : Extent) (a b : ℕ) (x : Part) → form_of x ≡ form.Block → Laid D r a b x → Laid D s a b x
  any_block r s a b (typed f i j l ps) e h =
      let g : Laid D r a b (typed form.Block i j l ps) = subst (λ z. Laid D r a b (typed z i j l ps)) e h in subst (λ z. Laid D s a b (typed z i j l ps)) (sym e) (g.0, g.1, g.2, tt, g.4)

  -- where one of the first parts ends
  pub behind_first_parts : (r : Extent) (a e n : ℕ) (xs ys : Parts) → n < length xs → EachLaid D r a e xs → behind_part n (row (xs ++ ys)) ≤ e
  behind_first_parts r a e n [] ys u h = absurd (omega (arith, u))
  behind_first_parts r a e zero (None ∷ xs) ys u h = omega arith
  behind_first_parts r a e (suc n) (None ∷ xs) ys u h = omega arith
  behind_first_parts r a e zero (Some x ∷ xs) ys u h = ends D r a e x h.0
  behind_first_parts r a e (suc n) (Some x ∷ xs) ys u h = behind_first_parts r (last_of x) e n xs ys (omega (arith, u)) h.1
