-- Functions, typed by what is known behind their signatures.
use Rattle.std.proofs.Common.{◌≡◌, ◌∙◌, ℕ, List, [], ◌∷◌, ◌++◌, Some, None, refl, ap}
use Rattle.go_grammar.specs.declared.kind.Kind.TheVariants as kind
use Rattle.go_grammar.specs.Trees.{Tree, Trees, node, none, more, last}
use Rattle.go_typed.specs.declared.form.Form.TheVariants as form
use Rattle.go_typed.specs.Trees as sort
use Rattle.go_exprs_rules.specs.declared.fault.TypeFault.{TypeFault}
use Rattle.go_exprs_rules.specs.Faults.{judged, reported}
use Rattle.go_exprs_rules.specs.Scopes.{Scope, value, free}
use Rattle.go_exprs_rules.specs.Settling.{Part}
use Rattle.go_exprs_rules.specs.Tables.{Parts, made}
use Rattle.go_exprs_rules.specs.Typing.{typing, faults}
use Rattle.go_stmts_defs.specs.Bodies.{start, answer_of, body_answer, function_read, signature_of}
use Rattle.go_stmts_defs.specs.Frames.{Frame, scope_of}
use Rattle.go_stmts_defs.specs.Reading.{Found, Readings, all_read, after, reading, readings, behind_signature, closed, leaving, back}
use Rattle.go_stmts_defs.specs.Rules.{own_faults, built_by}
use Rattle.go_stmts_variables.specs.Statements.{tree_in, found_in, frame_in}
use Rattle.go_stmts_variables.specs.WorkedFunctions.{tree_said}
use Rattle.go_stmts_variables.proofs.Rows.{after_is}

-- a function over the body b, where F is known behind its signature
abbrev pub function_at : Frame → ℕ → ℕ → Tree → Part
function_at F i j b = made form.Function i j sort.Nothing (Some (tree_in (reading F value b)) ∷ []) (Some (tree_in (reading F value b)) ∷ [])

module _ (s : Scope) (n : ℕ) (types : ℕ → ℕ) (i j a c : ℕ) (qs : Trees) (b : Tree) (F : Frame) where
  abbrev first : Frame
  first = start s n types

  abbrev whole : Tree
  whole = node kind.FunctionDeclaration i j (more (node kind.Signature a c qs) (more b none))

  abbrev pub signature : Part
  signature = typing (scope_of (start s n types)) value (node kind.Signature a c qs)

  abbrev signature_found : Found
  signature_found = faults (scope_of (start s n types)) value (node kind.Signature a c qs)

  abbrev body : Part
  body = tree_in (reading F value b)

  abbrev behind : Frame
  behind = frame_in (reading F value b)

  abbrev own : List TypeFault
  own = own_faults (frame_in (reading F value b)) kind.FunctionDeclaration form.Function i j (Some (tree_in (reading F value b)) ∷ [])

  -- its rules that fail, where F is known behind the signature
  abbrev pub all_found : Found
  all_found = (signature_found ++ found_in (reading F value b)) ++ own ∷ []

  rest : Frame → Readings
  rest t = after (reading t value b) (λ x gs t. all_read (Some signature ∷ Some x ∷ []) (signature_found ++ gs) t)

  read_on : behind_signature (Some signature) first ≡ F
      → readings first kind.FunctionDeclaration free (more (node kind.Signature a c qs) (more b none)) [] [] (more (node kind.Signature a c qs) (more b none))
      ≡ all_read (Some signature ∷ Some body ∷ []) (signature_found ++ found_in (reading F value b)) behind
  unfolding rest
  read_on e = ap rest e ∙ after_is (reading F value b) (λ x gs t. all_read (Some signature ∷ Some x ∷ []) (signature_found ++ gs) t)

  built : (t : Frame) (ys : Parts) (own : List TypeFault) → built_by t kind.FunctionDeclaration form.Function i j ys own ≡ made form.Function i j sort.Nothing ys ys
  built t ys [] = refl
  built t ys (x ∷ xs) = refl

  -- The function is its body, if no rule fails.
  pub function_typed : behind_signature (Some signature) first ≡ F → reported all_found ≡ None → tree_said (body_answer s 0 n types whole) ≡ Some (function_at F i j b)
  function_typed e r =
      let x : Part = built_by behind kind.FunctionDeclaration form.Function i j (Some body ∷ []) own in
      let t : Frame = leaving kind.FunctionDeclaration i (more (node kind.Signature a c qs) (more b none)) x (back first behind) in
      ap (λ q. tree_said (answer_of s 0 whole (closed first kind.FunctionDeclaration i j (more (node kind.Signature a c qs) (more b none)) q))) (read_on e)
      ∙ ap (λ o. tree_said (judged o (function_read s 0 (last whole) (signature_of s whole) x t))) r ∙ ap Some (built behind (Some body ∷ []) own)
