-- Functions.
use Rattle.std.proofs.Common.{◌≡◌, ℕ, List, [], ◌∷◌, length, map, Option, Some, None, Ok, subst}
use Rattle.std.specs.Option.{unwrap_or}
use Rattle.go_grammar.specs.Trees.{Tree, node, last}
use Rattle.go_types.specs.Trees.{TypeTree}
use Rattle.go_typed.specs.Contents.{FuncContent}
use Rattle.go_exprs_rules.specs.declared.fault.TypeFault.{TypeFault}
use Rattle.go_exprs_rules.specs.Faults.{judged, reported}
use Rattle.go_exprs_rules.specs.Scopes.{Scope, free}
use Rattle.go_exprs_rules.specs.Settling.{Part}
use Rattle.go_exprs_rules.specs.TypeNodes.{part_type}
use Rattle.go_stmts_defs.specs.Bodies.{numbers_from, start, signature_in, signature_part, signature_of, no_function, function_read, answer_of, body_answer}
use Rattle.go_stmts_defs.specs.Frames.{Frame, Locals, local_stands}
use Rattle.go_stmts_defs.specs.Reading.{Reading, read, reading}
use Rattle.go_print_laws.specs.Reading.{IsWithin}
use Rattle.go_stmts_limits.specs.Limits.{PartIsWithin, AllStandWithin, ScopeIsWithin, AreBehind, FunctionIsWithin}
use Rattle.go_stmts_limits.proofs.Within.{MaybeWithin, MaybePart}
use Rattle.go_stmts_limits.proofs.Values.{part_type_within}
use Rattle.go_stmts_limits.proofs.Arrays.{JudgesWithin, AreTold, counts_stay}
use Rattle.go_stmts_limits.proofs.Assigning.{LocalsWithin}
use Rattle.go_stmts_limits.proofs.Typing.{typing_within}
use Rattle.go_stmts_limits.proofs.Frames.{FrameWithin, front_has, started}
use Rattle.go_stmts_limits.proofs.Reading.{ReadWithin, reading_within}

pub judged_ok : {A : Type 0} (o : Option TypeFault) (x y : A) → judged o x ≡ Ok y → x ≡ y
judged_ok None x y e = cc
judged_ok (Some f) x y e = cc

module _ (limit : Scope) where
  all_stand : (ls : Locals) (ns : List ℕ) → LocalsWithin limit ls → AllStandWithin limit (map (local_stands ls) ns)
  all_stand ls [] a = tt
  all_stand ls (n ∷ ns) a = (a n, all_stand ls ns a)

  type_or_none : (t : Option TypeTree) → MaybeWithin limit t → IsWithin limit (unwrap_or t no_function)
  type_or_none None w = (tt, tt)
  type_or_none (Some t) w = w

  pub judges : AreTold → (s : Scope) → ScopeIsWithin limit s → JudgesWithin limit s
  judges tells s a = record { judged = a.judged; counted = counts_stay tells limit.rights s.rights (front_has limit.rights s.rights a.front); rights = a.rights; objects = a.objects }

  module _ (tells : AreTold) (s : Scope) (a : ScopeIsWithin limit s) where
    part_within : (o : Option Tree) → MaybePart limit (signature_part s o)
    part_within None = tt
    part_within (Some g) = typing_within limit s free g (judges tells s a) tt

    signature_within : (t : Tree) → MaybePart limit (signature_of s t)
    signature_within (node k i j ps) = part_within (signature_in ps)

    pub read_within : (number : ℕ) (t : Tree) (x : Part) (f : Frame) → PartIsWithin limit x → FrameWithin limit f → FunctionIsWithin limit (function_read s number (last t) (signature_of s t) x f)
    read_within number t x f w b = record {
      signature = type_or_none (part_type (signature_of s t)) (part_type_within limit (signature_of s t) (signature_within t));
      locals = all_stand f.locals (numbers_from 0 (length f.locals)) b.locals;
      tree = w;
    }

    answered : (number : ℕ) (t : Tree) (r : Reading) (f : FuncContent) → answer_of s number t r ≡ Ok f → ReadWithin limit tells r → FunctionIsWithin limit f
    answered number t (read x fs z) f e w =
        subst (FunctionIsWithin limit) (judged_ok (reported fs) (function_read s number (last t) (signature_of s t) x z) f e) (read_within number t x z w.0 w.1)

    pub function_within : (number locals : ℕ) (types : ℕ → ℕ) (t : Tree) (f : FuncContent) → AreBehind limit types → body_answer s number locals types t ≡ Ok f → FunctionIsWithin limit f
    function_within number locals types t f b e = answered number t (reading (start s locals types) free t) f e (reading_within limit tells (start s locals types) free t (started limit s locals types a b) tt)
