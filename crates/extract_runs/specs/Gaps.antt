-- Where gaps stand in a tree: each begins at a statement of a list and takes the statements up to its end.
use Rattle.std.specs.Prelude.{◌≡◌, ℕ, suc, ◌+◌, ◌≤◌, Bool, true, false, ◌||◌, not, nat_lt, List, Option, Some, None}
use Rattle.go_types.specs.Trees.{TypeTree}
use Rattle.go_typed.specs.declared.form.Form.{Form}
use Rattle.go_typed.specs.declared.form.Form.TheVariants as form
use Rattle.go_typed.specs.Forms.{is_statement_list, values_count}
use Rattle.go_typed.specs.Trees.{Sort, Nothing, Label, Typed, typed, Typeds, none, more, skip, first_of}
use Rattle.go_typed.specs.Trees as trees
use Rattle.go_meaning.specs.Values.{Value}
use Rattle.go_meaning.specs.Planning.{part_at}
use Rattle.extract_trees.specs.Numberings.{Numbering}
use Rattle.extract_trees.specs.Filled.{Gap, gap_at}
use Rattle.go_meaning_simulation.specs.Links.{joined}
use Rattle.extract_runs.specs.Quiet.{IsKeyed, HasCalls}
use Rattle.extract_runs.specs.Holes.{IsValue}

-- they begin before the token u
abbrev pub AreBefore : ℕ → Typeds TypeTree → Type 0
AreBefore u none = Unit {0}
AreBefore u (more p ps) = (nat_lt (first_of p) u ≡ true) × AreBefore u ps
AreBefore u (skip ps) = ⊥

-- ---- statements among the parts

-- nodes that hold statements among other parts
abbrev pub is_above : Form → Bool
is_above form.Function = true
is_above form.If = true
is_above form.For = true
is_above form.Switch = true
is_above (form.Range defines n) = true
is_above f = false

abbrev mutual
  -- whether it holds statements
  pub has_statements : Typed TypeTree → Bool
  has_statements (typed f i j l ps) = is_statement_list f || is_above f || have_statements ps

  pub have_statements : Typeds TypeTree → Bool
  have_statements none = false
  have_statements (more p ps) = has_statements p || have_statements ps
  have_statements (skip ps) = have_statements ps

abbrev pub is_free : Option (Typed TypeTree) → Bool
is_free (Some p) = not (has_statements p)
is_free None = true

-- the operand of a range clause holds no statements
abbrev pub HasFreeOperand : Form → Typeds TypeTree → Type 0
HasFreeOperand (form.Range defines n) ps = is_free (part_at ps n) ≡ true
HasFreeOperand f ps = Unit {0}

module _ (c : Numbering) (gs : List Gap) (held : Value → ℕ → Type 0) (windows : Typeds TypeTree → Typeds TypeTree → Type 0) (gone : ℕ → Bool) where
  mutual
    -- a tree with so many gaps at most
    pub data Gapped : ℕ → Typed TypeTree → Type 0 where
      -- a node without statements
      node : {n i j : ℕ} {f : Form} {l : Label TypeTree} {ps : Typeds TypeTree} → is_statement_list f ≡ false → is_above f ≡ false → have_statements ps ≡ false → HasCalls f l ps →
          IsKeyed f l.sort ps → IsValue c held f ps → GappedParts n ps → Gapped n (typed f i j l ps)
      above : {n i j : ℕ} {f : Form} {l : Label TypeTree} {ps : Typeds TypeTree} → is_above f ≡ true → HasFreeOperand f ps → GappedParts n ps → Gapped n (typed f i j l ps)
      list : {n i j : ℕ} {f : Form} {l : Label TypeTree} {ps : Typeds TypeTree} → is_statement_list f ≡ true → l.sort ≡ Nothing → GappedList n (values_count f) 0 ps →
          Gapped n (typed f i j l ps)

    pub data GappedParts : ℕ → Typeds TypeTree → Type 0 where
      no_parts : {n : ℕ} → GappedParts n trees.none
      part : {n : ℕ} {p : Typed TypeTree} {ps : Typeds TypeTree} (a b : ℕ) → a + b ≤ n → gone (first_of p) ≡ false → Gapped a p → GappedParts b ps →
          GappedParts n (trees.more p ps)
      no_part : {n : ℕ} {ps : Typeds TypeTree} → GappedParts n ps → GappedParts n (trees.skip ps)

    -- a list of so many values and statements behind them, of which no more than those from the token u on are left
    pub data GappedList : ℕ → ℕ → ℕ → Typeds TypeTree → Type 0 where
      ends : {n k u : ℕ} → GappedList n k u trees.none
      left_out : {n k u : ℕ} {ps : Typeds TypeTree} → GappedList n k u ps → GappedList n k u (trees.skip ps)
      value : {n k u a : ℕ} {p : Typed TypeTree} {ps : Typeds TypeTree} → nat_lt (first_of p) u ≡ false → gap_at gs (first_of p) ≡ None → Gapped a p → GappedList n k u ps →
          GappedList n (suc k) u (trees.more p ps)
      next : {n u : ℕ} {p : Typed TypeTree} {ps : Typeds TypeTree} (a b : ℕ) → a + b ≤ n → nat_lt (first_of p) u ≡ false → gap_at gs (first_of p) ≡ None → gone (first_of p) ≡ false →
          Gapped a p →
          GappedList b 0 u ps → GappedList n 0 u (trees.more p ps)
      window : {n u b : ℕ} {p : Typed TypeTree} {ps ws ts : Typeds TypeTree} (g : Gap) → 1 + b ≤ n → nat_lt (first_of p) u ≡ false → gap_at gs (first_of p) ≡ Some g →
          ps ≡ joined ws ts → AreBefore g.upto ws → windows (more p ws) g.statements → GappedList b 0 g.upto ts → GappedList n 0 u (trees.more p ps)
