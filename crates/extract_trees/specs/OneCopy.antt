-- Trees that are one copy of windows that are the same.
use Rattle.std.specs.Prelude.{◌≡◌, ℕ, true}
use Rattle.go_constants.specs.declared.values.Const.{Const}
use Rattle.go_types.specs.Trees.{TypeTree}
use Rattle.go_typed.specs.declared.form.Form.{Form}
use Rattle.go_typed.specs.Trees.{Nothing, Blank, Constant, OpenConstant, Label, Typed, typed, Typeds}
use Rattle.go_typed.specs.Trees as trees
use Rattle.go_exprs_rules.specs.Sorts.{Stands}
use Rattle.clone_window.specs.Masses.{is_expression}
use Rattle.clone_window.specs.Sameness.{same_value}

-- One thing that two nodes stand for: constants may differ in being written as a character or as a number, and the blank
-- identifier as a target stands for as much as one that is no variable.
pub data AreOneSort : Stands → Stands → Type 0 where
  same : {s : Stands} → AreOneSort s s
  constant : {t : TypeTree} {v w : Const} → same_value v w ≡ true → AreOneSort (Constant t v) (Constant t w)
  untyped : {v w : Const} → same_value v w ≡ true → AreOneSort (OpenConstant v) (OpenConstant w)
  target : AreOneSort Blank Nothing
  no_target : AreOneSort Nothing Blank

mutual
  -- One tree twice: nodes of one form with one sort, which call or don't; but for tokens, for whether they name variables, and for
  -- what stands inside constants of one type and value.
  pub data IsOneCopy : Typed TypeTree → Typed TypeTree → Type 0 where
    node : {f : Form} {i j i' j' : ℕ} {l l' : Label TypeTree} {ps ps' : Typeds TypeTree} →
        AreOneSort l.sort l'.sort → l.calls ≡ l'.calls → AreOneCopy ps ps' → IsOneCopy (typed f i j l ps) (typed f i' j' l' ps')
    constant : {f f' : Form} {i j i' j' : ℕ} {l l' : Label TypeTree} {ps ps' : Typeds TypeTree} {t : TypeTree} {v w : Const} →
        is_expression f ≡ true → is_expression f' ≡ true → l.sort ≡ Constant t v → l'.sort ≡ Constant t w → same_value v w ≡ true → l.calls ≡ l'.calls → IsOneCopy (typed f i j l ps) (typed f' i' j' l' ps')

  pub data AreOneCopy : Typeds TypeTree → Typeds TypeTree → Type 0 where
    none : AreOneCopy trees.none trees.none
    more : {p p' : Typed TypeTree} {ps ps' : Typeds TypeTree} → IsOneCopy p p' → AreOneCopy ps ps' → AreOneCopy (trees.more p ps) (trees.more p' ps')
    skip : {ps ps' : Typeds TypeTree} → AreOneCopy ps ps' → AreOneCopy (trees.skip ps) (trees.skip ps')
