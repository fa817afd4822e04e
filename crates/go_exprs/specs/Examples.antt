-- Worked examples: whole typed trees, and what contexts refuse.
use Rattle.std.specs.Prelude.{◌≡◌, ℕ, true, false, [], ◌∷◌, codes, pos, neg_ℤ, Result, Ok, Err}
use Rattle.go_base.specs.declared.fault.FaultCode.{FaultCode}
use Rattle.go_base.specs.declared.fault.FaultCode.TheVariants as code
use Rattle.go_ints.specs.declared.kinds.Kind.TheVariants as integer_kind
use Rattle.go_constants.specs.declared.values.Const.TheVariants as const
use Rattle.go_grammar.specs.declared.kind.Arithmetic.TheVariants as arithmetic
use Rattle.go_grammar.specs.declared.kind.Kind.TheVariants as kind
use Rattle.go_grammar.specs.declared.kind.Operator.TheVariants as operator
use Rattle.go_grammar.specs.declared.kind.Sign.TheVariants as sign
use Rattle.go_grammar.specs.Trees as syntax
use Rattle.go_types.specs.Trees.{TypeTree, text, integer, slice, function, declared, row}
use Rattle.go_types.specs.Trees as types
use Rattle.go_typed.specs.declared.form.Form.{Form}
use Rattle.go_typed.specs.declared.form.Form.TheVariants as form
use Rattle.go_typed.specs.declared.form.Referent.TheVariants as referent
use Rattle.go_typed.specs.Trees.{Typed, typed, Typeds, none, more, skip}
use Rattle.go_typed.specs.Trees as sort
use Rattle.go_exprs_rules.specs.declared.fault.TypeFault.{TypeFault}
use Rattle.go_exprs_rules.specs.Scopes.{Hint, several}
use Rattle.go_exprs_rules.specs.Sentences.{Sentence, sentence, scope_of, word, mark, name, number, character, string, infix_of, prefix_of, u_word, T_word, two_word}
use Rattle.go_exprs_rules.specs.Settling.{Part}
use Rattle.go_exprs_rules.specs.Sorts.{Stands, int, uint, rune}
use Rattle.go_exprs_rules.specs.Typing.{answer}
use Rattle.go_exprs.specs.Contexts as context
use Rattle.go_exprs.specs.Contexts.{Context, answer_in}

-- an expression in its context, and one that is told this
abbrev pub whole : Context → Sentence → Result Part TypeFault
whole c e = answer_in (scope_of e.words) c e.tree

abbrev pub whole_told : Hint → Sentence → Result Part TypeFault
whole_told h e = answer (scope_of e.words) h e.tree

abbrev pub refused : FaultCode → ℕ → ℕ → Result Part TypeFault
refused c i j = Err (record { code = c; first = i; last = j })

-- a node in which no variable is named and nothing is called
abbrev pub fixed : Form → ℕ → ℕ → Stands → Typeds TypeTree → Part
fixed f i j x ps = typed f i j (record { sort = x; varies = false; calls = false }) ps

-- one in which a variable is named
abbrev pub varying : Form → ℕ → ℕ → Stands → Typeds TypeTree → Part
varying f i j x ps = typed f i j (record { sort = x; varies = true; calls = false }) ps

abbrev pub int8 : TypeTree
int8 = integer integer_kind.Int8

abbrev pub int64 : TypeTree
int64 = integer integer_kind.Int64

-- 1 << u
abbrev pub shifted : Sentence
shifted = sentence (word (codes "1") ∷ mark ∷ u_word ∷ []) (infix_of (operator.Compute arithmetic.ShiftLeft) (number 0) (name 2))

-- 1 << 70
abbrev pub wide : Sentence
wide = sentence (word (codes "1") ∷ mark ∷ word (codes "70") ∷ []) (infix_of (operator.Compute arithmetic.ShiftLeft) (number 0) (number 2))

-- -1
abbrev pub negative : Sentence
negative = sentence (mark ∷ word (codes "1") ∷ []) (prefix_of sign.Minus (number 1))

-- Go specification: Constant expressions, Composite literals, Calls
pub record TreeExamples : Type 0 where
  -- 1 << u, where an int64 is wanted
  pub wanted_shift :
      whole (context.wanted int64) shifted
      ≡ Ok (varying (form.Binary (operator.Compute arithmetic.ShiftLeft)) 0 3 (sort.Value int64)
      (more (fixed form.Literal 0 1 (sort.Constant int64 (const.Int (pos 1) false)) none) (more (varying (form.Local 1) 2 3 (sort.Value uint) none) none)))
  -- 1 << u, where nothing is wanted
  pub shift_by_default :
      whole context.none shifted
      ≡ Ok (varying (form.Binary (operator.Compute arithmetic.ShiftLeft)) 0 3 (sort.Value int)
      (more (fixed form.Literal 0 1 (sort.Constant int (const.Int (pos 1) false)) none) (more (varying (form.Local 1) 2 3 (sort.Value uint) none) none)))
  -- -128, where an int8 is wanted: the operand of a constant operation takes its default type
  pub least_value :
      whole (context.wanted int8) (sentence (mark ∷ word (codes "128") ∷ []) (prefix_of sign.Minus (number 1)))
      ≡ Ok (fixed (form.Unary sign.Minus) 0 2 (sort.Constant int8 (const.Int (neg_ℤ (pos 128)) false)) (more (fixed form.Literal 1 2 (sort.Constant int (const.Int (pos 128) false)) none) none))
  -- 'a' + 1
  pub rune_and_integer :
      whole context.none (sentence (word (codes "'a'") ∷ mark ∷ word (codes "1") ∷ []) (infix_of (operator.Compute arithmetic.Add) (character 0) (number 2)))
      ≡ Ok (fixed (form.Binary (operator.Compute arithmetic.Add)) 0 3 (sort.Constant rune (const.Int (pos 98) true))
      (more (fixed form.Literal 0 1 (sort.Constant rune (const.Int (pos 97) true)) none) (more (fixed form.Literal 2 3 (sort.Constant int (const.Int (pos 1) false)) none) none)))
  -- []T{{1, "a"}}
  pub elided_type :
      whole context.none (sentence (mark ∷ mark ∷ T_word ∷ mark ∷ mark ∷ word (codes "1") ∷ mark ∷ word (codes "\"a\"") ∷ mark ∷ mark ∷ [])
      (syntax.node kind.Composite 0 10 (syntax.more (syntax.node kind.SequenceType 0 3 (syntax.skip (syntax.more (name 2) syntax.none)))
      (syntax.more (syntax.node kind.LiteralValue 4 9 (syntax.more (number 5) (syntax.more (string 7) syntax.none))) syntax.none))))
      ≡ Ok (fixed form.Composite 0 10 (sort.Value (slice (declared 1)))
      (more (fixed form.Type 0 3 (sort.IsType (slice (declared 1))) none)
      (more (fixed form.Composite 4 9 (sort.Value (declared 1))
      (skip (more (fixed form.Literal 5 6 (sort.Constant int (const.Int (pos 1) false)) none) (more (fixed form.Literal 7 8 (sort.Constant text (const.Text (97 ∷ []))) none) none)))) none)))
  -- two(), as a whole right side
  pub several_results :
      whole_told several (sentence (two_word ∷ mark ∷ mark ∷ []) (syntax.node kind.Call 0 3 (syntax.more (name 0) syntax.none)))
      ≡ Ok (typed form.Call 0 3 (record { sort = sort.Results (function types.none (row (int ∷ text ∷ []))); varies = false; calls = true })
      (more (fixed (form.Object (referent.Function 0)) 0 1 (sort.Value (function types.none (row (int ∷ text ∷ [])))) none) none))

-- Go specification: Representability, Assignability, Index expressions, Operators
pub record RefusalExamples : Type 0 where
  -- 300, where an int8 is wanted
  pub wide_for_type : whole (context.wanted int8) (sentence (word (codes "300") ∷ []) (number 0)) ≡ refused code.Representable 0 1
  -- 1 << u, where a string is wanted
  pub shift_for_text : whole (context.wanted text) shifted ≡ refused code.Assignable 0 3
  -- u, where an int64 is wanted
  pub other_type : whole (context.wanted int64) (sentence (u_word ∷ []) (name 0)) ≡ refused code.Assignable 0 1
  -- 1 << 70, where nothing is wanted
  pub wide_for_default : whole context.none wide ≡ refused code.Representable 0 3
  -- 1 << 70 and -1 as an index, and a text
  pub wide_index : whole context.index wide ≡ refused code.Representable 0 3
  pub negative_index : whole context.index negative ≡ refused code.ConstIndex 0 2
  pub text_index : whole context.index (sentence (word (codes "\"1\"") ∷ []) (string 0)) ≡ refused code.Operands 0 1
  -- -1 and 1 << u as a count
  pub negative_count : whole context.count negative ≡ refused code.Representable 0 2
  pub open_count : whole context.count shifted ≡ refused code.Operands 0 3
