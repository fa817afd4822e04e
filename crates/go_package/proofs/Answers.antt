-- A function with the right sides behind it, of what is answered of its body.
use Rattle.std.proofs.Common.{◌≡◌, ℕ, List, [], ◌∷◌, ◌++◌, Option, Some, None, Result, Ok, Err, ap, sym, subst, ◌∙◌}
use Rattle.std.proofs.lemmas.List.{append-nil}
use Rattle.std.specs.Prelude.{OnOk}
use Rattle.go_base.specs.Gives.{Gives}
use Rattle.go_grammar.specs.Trees.{Tree, last}
use Rattle.go_tree.specs.Failures.{Failure}
use Rattle.go_tree.specs.Units.{bytes_of}
use Rattle.go_tokens.specs.Tokens.{TokenList}
use Rattle.go_types.specs.Relations.{Rights}
use Rattle.go_types.specs.Tables.{Table, type_of, rights_of}
use Rattle.go_typed.specs.Contents.{FuncContent, func_content}
use Rattle.go_typed.specs.Funcs.{FuncView}
use Rattle.go_exprs_rules.specs.declared.fault.TypeError.{TypeError}
use Rattle.go_exprs_rules.specs.declared.fault.TypeError.TheVariants as errors
use Rattle.go_exprs_rules.specs.declared.fault.TypeFault.{TypeFault}
use Rattle.go_exprs_rules.specs.Faults.{judged, reported, refusal_of}
use Rattle.go_exprs_rules.specs.Scopes.{Scope, free}
use Rattle.go_package_defs.specs.declared.error.CheckError.{CheckError}
use Rattle.go_package_defs.specs.declared.error.CheckError.TheVariants as failing
use Rattle.go_exprs.specs.Expressions.{failure_at}
use Rattle.go_exprs_rules.specs.Settling.{Part}
use Rattle.go_stmts_defs.specs.Bodies.{based, start, signature_of, function_read, answer_of, body_answer}
use Rattle.go_stmts_defs.specs.Reading.{Reading, read, reading}
use Rattle.go_package_defs.specs.Answer as answers
use Rattle.go_package_defs.specs.Bodies.{Surroundings, Behind, behind_read, based_tree, function_in, moved_fault, placed, portion_of, tree_read, variable_of, variables_by}
use Rattle.go_package_defs.specs.Declarations.{Specification}
use Rattle.go_package_defs.specs.Sources.{Package, tokens_in}
use Rattle.go_stmts.specs.Bodies.{frame_in}
use Rattle.go_stmts.specs.Bodies.{variables_answer}
use Rattle.go_package.specs.Functions.{behind_seen, IsMoved, IsPlain, check_failure}
use Rattle.go_package.proofs.Plain.{plain_rights, based_plain}

judged_ok : {A B : Type 0} (o : Option TypeFault) (x y : A) (f : A → B) → judged o x ≡ Ok y → judged o (f x) ≡ Ok (f y)
judged_ok None x y f e = ap (λ z. Ok (f z)) (let same : x ≡ y = cc in same)
judged_ok (Some g) x y f e = cc

judged_err : {A B : Type 0} (o : Option TypeFault) (x : A) (y : B) (g : TypeFault) → judged o x ≡ Err g → judged o y ≡ Err g
judged_err None x y g e = cc
judged_err (Some h) x y g e = ap Err (let same : h ≡ g = cc in same)

module _ (s : Scope) (number : ℕ) (x : Tree) where
  behind_by : (c : FuncContent) (rights : Rights) (r : Reading) → answer_of s number x r ≡ Ok c → rights ≡ (frame_in r).around.rights → behind_read s number x r ≡ Ok (record { function = c; rights = rights })
  behind_by c rights (read y fs f) h e =
      judged_ok (reported fs) (function_read s number (last x) (signature_of s x) y f) c (λ z. let b : Behind = record { function = z; rights = f.around.rights } in b) h
      ∙ ap (λ z. let b : Behind = record { function = c; rights = z } in let r : Result Behind TypeFault = Ok b in r) (sym e)

  fault_by : (g : TypeFault) (r : Reading) → answer_of s number x r ≡ Err g → behind_read s number x r ≡ Err g
  fault_by g (read y fs f) h = judged_err (reported fs) (function_read s number (last x) (signature_of s x) y f) (record { function = function_read s number (last x) (signature_of s x) y f; rights = f.around.rights }) g h

  -- what is answered of a body, with the right sides of the table
  pub behind_gives : (count : ℕ) (own : ℕ → ℕ) (t : Table) (a : Result FuncView TypeError) → Gives (func_content (type_of t.shapes)) refusal_of a (body_answer s number count own x)
      → OnOk a (rights_of t ≡ (frame_in (reading (start s count own) free x)).around.rights) → Gives (behind_seen t) refusal_of a (function_in s number count own x)
  behind_gives count own t (Ok f) h e = behind_by (func_content (type_of t.shapes) f) (rights_of t) (reading (start s count own) free x) h e
  behind_gives count own t (Err errors.Memory) h e = tt
  behind_gives count own t (Err (errors.Fault g)) h e = fault_by g (reading (start s count own) free x) h

-- ---- variables

judged_same : {A : Type 0} (o : Option TypeFault) (x y : A) → judged o x ≡ Ok y → x ≡ y
judged_same None x y e = cc
judged_same (Some g) x y e = cc

tree_there : (r : Reading) (x : Part) → variables_answer r ≡ Ok x → tree_read r ≡ x
tree_there (read y fs f) x h = judged_same (reported fs) y x h

abbrev pub read_of : Scope → ℕ → Tree → Reading
read_of s b x = reading (start s 0 (λ n. n)) free (based b x)

pub variable_is : (p : Package) (a : Surroundings) (d : Specification) (rights : Rights) (s : Scope) (x : Tree) (y : Part) → d.tree ≡ Some x → variable_of a (rights ++ []) (portion_of p d) ≡ variables_by s (based_tree d.first d.tree)
    → variables_answer (read_of s d.first x) ≡ Ok y → variable_of a rights (portion_of p d) ≡ y ∷ []
variable_is p a d rights s x y is law h =
    ap (λ rs. variable_of a rs (portion_of p d)) (sym (append-nil rights)) ∙ law
    ∙ ap (λ o. variables_by s (based_tree d.first o)) is
    ∙ ap (λ z. let xs : List Part = z ∷ [] in xs) (tree_there (read_of s d.first x) y h)

pub rights_kept : (s : Scope) (b : ℕ) (x : Tree) (rights : Rights) → s.rights ≡ rights ++ [] → IsPlain (Some x) → (frame_in (read_of s b x)).around.rights ≡ rights
rights_kept s b x rights e h = plain_rights (start s 0 (λ n. n)) free (based b x) (based_plain b x h) ∙ e ∙ append-nil rights

-- ---- places

pub placed_ok : {A : Type 0} (p : Package) (d : Specification) (r : Result A TypeFault) (x : A) → r ≡ Ok x → placed p d r ≡ Ok x
placed_ok p d r x e = ap (placed p d) e

module _ (p : Package) (d : Specification) (ts : TokenList) (is : tokens_in p d.file ≡ ts) (number : ts.file ≡ d.file) where
  place_is : (f : TypeFault) → answers.failure_at p d.file f ≡ failure_at ts f
  place_is f = ap (λ z. let g : Failure = record { code = f.code; place = bytes_of d.file z f.first f.last } in g) is ∙ ap (λ n. let g : Failure = record { code = f.code; place = bytes_of n ts f.first f.last } in g) (sym number)

  pub placed_fault : {X Y : Type 0} (view : X → Y) (r : Result Y TypeFault) (e : TypeError) (a : Result X TypeError) (b : Result X CheckError) (g : CheckError) → Gives view refusal_of a r → a ≡ Err e
      → IsMoved ts d.first (refusal_of e) (check_failure g) → b ≡ Err g → Gives view check_failure b (placed p d r)
  placed_fault {X} {Y} view r e a b g h is_a moved is_b = subst (λ z. Gives view check_failure z (placed p d r)) (sym is_b) (by e g (subst (λ z. Gives view refusal_of z r) is_a h) moved)
    where
      by : (e : TypeError) (g : CheckError) → Gives view refusal_of (Err e) r → IsMoved ts d.first (refusal_of e) (check_failure g) → Gives view check_failure (Err g) (placed p d r)
      by e failing.Memory h m = tt
      by errors.Memory (failing.Fault g) h m = absurd m
      by (errors.Fault f) (failing.Fault g) h m = ap (placed p d) h ∙ ap Err (place_is (moved_fault d.first f) ∙ sym m)
