-- Printed constants are typed as untyped constants of their values.
use Rattle.std.proofs.Common.{◌≡◌, ℕ, suc, ◌<◌, ◌^◌, ◌-◌, Bool, true, false, if◌then◌else◌, List, [], ◌∷◌, ◌++◌, Some, nat_le, codes, refl, ap, ◌∙◌, arith}
use Rattle.std.specs.Prelude.{pos, negsuc, ◌-ℤ◌, Ok, Err}
use Rattle.std.specs.List.{AllByRecursion}
use Rattle.std.specs.Fmt.{decimal}
use Rattle.std.proofs.lemmas.Bool.Decides.{nat_tests}
use lib.IntN.{+ℤ_idl}
use Rattle.go_ints.specs.declared.operators.Op.TheVariants as op
use Rattle.go_constants.specs.declared.values.Const.{Const}
use Rattle.go_constants.specs.declared.values.Const.TheVariants as const
use Rattle.go_constants.specs.declared.values.ConstOp.TheVariants as const_op
use Rattle.go_constants.specs.declared.values.ConstFault.TheVariants as const_fault
use Rattle.go_constants.specs.Folding.{is_untyped_number, whole_const, folded}
use Rattle.go_grammar.specs.declared.kind.Kind.TheVariants as kind
use Rattle.go_grammar.specs.declared.kind.Sign.TheVariants as sign
use Rattle.go_grammar.specs.Trees.{node}
use Rattle.go_grammar.specs.Trees as trees
use Rattle.go_tokens.specs.Literals.{string_value}
use Rattle.go_tree.specs.Predeclared.{known_names}
use Rattle.go_types.specs.Relations.{Rights}
use Rattle.go_typed.specs.Trees.{sort_of}
use Rattle.go_typed.specs.Trees as sort
use Rattle.go_exprs_rules.specs.declared.family.OpenKind.TheVariants as untyped_kind
use Rattle.go_exprs_rules.specs.Scopes.{Scope, Needed, value}
use Rattle.go_exprs_rules.specs.Operators.{in_kind, result_in, out_of_range}
use Rattle.go_exprs_rules.specs.Names.{object_sort, need_of, place_failing}
use Rattle.go_exprs_rules.specs.Typing.{faults}
use Rattle.go_print.specs.Literals.{boolean_text, bytes_text}
use Rattle.go_print_laws.specs.Trees.{name_at, number_at}
use Rattle.go_print_laws.specs.Reading.{in_universe, IsTypedAs, LiteralsReadBack}
use Rattle.go_print_laws.proofs.Strings.{text_value}
use Rattle.go_print_laws.proofs.Nodes.{clear-append, node_stands}
use Rattle.go_print_laws.proofs.Numbers.{number_part, number_typed, number_clear}
use Rattle.go_tokens.proofs.Public.{and_both}

-- a constant is a value
placed_constant : (rights : Rights) (i j : ℕ) (c : Const) (b : Bool) → (if b then place_failing rights value i j (sort.OpenConstant c) else []) ≡ []
placed_constant rights i j c true = refl
placed_constant rights i j c false = refl

zero_minus : (n : ℕ) → pos 0 -ℤ pos (suc n) ≡ negsuc n
zero_minus n = +ℤ_idl (negsuc n)

is_untyped : (n : ℕ) → suc n < 2 ^ 127 → is_untyped_number (negsuc n) ≡ true
is_untyped n h = and_both (nat_le n (2 ^ 127 - 1)) true (let u : nat_le n (2 ^ 127 - 1) ≡ true = grind (arith, nat_tests) in u) refl

negative : (n : ℕ) → suc n < 2 ^ 127 → folded (const_op.Arith op.Sub) (const.Int (pos 0) false) (const.Int (pos (suc n)) false) ≡ Ok (const.Int (negsuc n) false)
negative n h =
    ap (λ z. whole_const (if is_untyped_number z then Ok z else Err const_fault.TooWide) false) (zero_minus n)
    ∙ ap (λ b. whole_const (if b then Ok (negsuc n) else Err const_fault.TooWide) false) (is_untyped n h)

module _ (s : Scope) where
  universe_truth : (b : Bool) (n : Needed) → object_sort s n (in_universe (boolean_text b)) ≡ sort.OpenConstant (const.Bool b)
  unfolding known_names
  universe_truth true n = refl
  universe_truth false n = refl

  truth_typed : (i : ℕ) (b : Bool) → s.objects i ≡ in_universe (boolean_text b) → IsTypedAs s value (name_at i) (sort.OpenConstant (const.Bool b))
  truth_typed i b e =
      node_stands s kind.Name value i (suc i) trees.none [] (sort.OpenConstant (const.Bool b)) (placed_constant s.rights i (suc i) (const.Bool b)) refl refl refl
      (ap (object_sort s (need_of s.needed value)) e ∙ universe_truth b (need_of s.needed value)) refl

  number_reads : (i n : ℕ) → n < 2 ^ 127 → s.texts i ≡ decimal n → IsTypedAs s value (number_at i) (sort.OpenConstant (const.Int (pos n) false))
  number_reads i n h said = record { stands = ap sort_of (number_typed s i n said h); faultless = number_clear s i n said h }

  negative_reads : (i n : ℕ) → suc n < 2 ^ 127 → s.texts (suc i) ≡ decimal (suc n)
      → IsTypedAs s value (node (kind.Unary sign.Minus) i (suc (suc i)) (trees.more (number_at (suc i)) trees.none)) (sort.OpenConstant (const.Int (negsuc n) false))
  negative_reads i n h said =
      node_stands s (kind.Unary sign.Minus) value i (suc (suc i)) (trees.more (number_at (suc i)) trees.none) (Some (number_part (suc i) (suc n)) ∷ []) (sort.OpenConstant (const.Int (negsuc n) false))
      (placed_constant s.rights i (suc (suc i)) (const.Int (negsuc n) false))
      (ap (λ x. Some x ∷ []) (number_typed s (suc i) (suc n) said h)) refl
      (ap (λ o. out_of_range s.rights i (suc (suc i)) (in_kind untyped_kind.Integer) (Some o)) (negative n h))
      (ap (λ o. result_in (in_kind untyped_kind.Integer) (Some o)) (negative n h))
      (clear-append (faults s value (number_at (suc i))) [] (number_clear s (suc i) (suc n) said h) refl)

  text_reads : (i : ℕ) (bs : List ℕ) → AllByRecursion (λ b. b < 256) bs → s.characters i ≡ codes "\"" ++ bytes_text bs ++ codes "\""
      → IsTypedAs s value (node kind.Text i (suc i) trees.none) (sort.OpenConstant (const.Text bs))
  text_reads i bs h said =
      node_stands s kind.Text value i (suc i) trees.none [] (sort.OpenConstant (const.Text bs)) (placed_constant s.rights i (suc i) (const.Text bs)) refl refl refl
      (ap (λ cs. sort.OpenConstant (const.Text (string_value cs))) said ∙ ap (λ l. sort.OpenConstant (const.Text l)) (text_value bs h)) refl

pub literals_read_back : LiteralsReadBack
literals_read_back s i (const.Bool b) h r = truth_typed s i b r
literals_read_back s i (const.Int (pos n) rune) h r = number_reads s i n h r
literals_read_back s i (const.Int (negsuc n) rune) h r = negative_reads s i n h r
literals_read_back s i (const.Text bs) h r = text_reads s i bs h r
