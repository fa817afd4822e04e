-- Functions.
use Rattle.std.proofs.Common.{◌≡◌, ℕ, List, [], ◌∷◌, length, map, Option, Some, None, Ok}
use Rattle.std.specs.Option.{unwrap_or}
use Rattle.go_grammar.specs.Trees.{Tree, node, Trees, none, more, skip, last}
use Rattle.go_typed.specs.Trees.{typed, Typeds, Every, EveryPart}
use Rattle.go_typed.specs.Trees as sort
use Rattle.go_types.specs.Trees.{TypeTree}
use Rattle.go_exprs_rules.specs.declared.fault.TypeFault.{TypeFault}
use Rattle.go_exprs_rules.specs.Faults.{judged}
use Rattle.go_exprs_rules.specs.Scopes.{Scope, free}
use Rattle.go_exprs_rules.specs.Settling.{Part}
use Rattle.go_exprs_rules.specs.TypeNodes.{part_type}
use Rattle.go_stmts_defs.specs.Bodies.{numbers_from, signature_in, signature_part, signature_of, no_function, function_read}
use Rattle.go_stmts_defs.specs.Frames.{Frame, Locals, local_stands}
use Rattle.go_stmts_written.specs.Named.{IsNamed}
use Rattle.go_stmts_written.specs.Named.{AllStandNamed, FunctionIsNamed, TreeIsNamed, TreesAreNamed}
use Rattle.go_stmts_written.proofs.Said.{MaybeNamed, MaybePart, PartIsNamed, AllNamed, MaybeTree, LocalsNamed}
use Rattle.go_stmts_written.proofs.Values.{part_type_named}
use Rattle.go_stmts_written.proofs.Around.{ScopeIsNamed}
use Rattle.go_stmts_written.proofs.Typing.{typing_named}
use Rattle.go_stmts_written.proofs.Frames.{FrameIsNamed}

pub judged_ok : {A : Type 0} (o : Option TypeFault) (x y : A) → judged o x ≡ Ok y → x ≡ y
judged_ok None x y e = cc
judged_ok (Some f) x y e = cc

module _ (texts : ℕ → List ℕ) where
  mutual
    pub nodes_named : (x : Part) → PartIsNamed texts x → Every IsNamed x
    nodes_named (typed f i j l ps) w = (w.0, rows_named ps w.1)

    rows_named : (ps : Typeds TypeTree) → AllNamed texts ps → EveryPart IsNamed ps
    rows_named sort.none w = tt
    rows_named (sort.more p ps) w = (nodes_named p w.0, rows_named ps w.1)
    rows_named (sort.skip ps) w = rows_named ps w

  all_stand : (ls : Locals) (ns : List ℕ) → LocalsNamed ls → AllStandNamed (map (local_stands ls) ns)
  all_stand ls [] a = tt
  all_stand ls (n ∷ ns) a = (a n, all_stand ls ns a)

  type_or_none : (t : Option TypeTree) → MaybeNamed t → IsNamed (unwrap_or t no_function)
  type_or_none None w = (tt, tt)
  type_or_none (Some t) w = w

  module _ (s : Scope) (a : ScopeIsNamed texts s) where
    part_named : (o : Option Tree) → MaybeTree texts o → MaybePart texts (signature_part s o)
    part_named None n = tt
    part_named (Some g) n = typing_named texts s free g a n tt

    signature_there : (ps : Trees) → TreesAreNamed texts ps → MaybeTree texts (signature_in ps)
    signature_there none n = tt
    signature_there (more g ps) n = n.0
    signature_there (skip ps) n = tt

    signature_named : (t : Tree) → TreeIsNamed texts t → MaybePart texts (signature_of s t)
    signature_named (node k i j ps) n = part_named (signature_in ps) (signature_there ps n.1)

    pub read_named : (number : ℕ) (t : Tree) (x : Part) (f : Frame) → TreeIsNamed texts t → PartIsNamed texts x → FrameIsNamed texts f → FunctionIsNamed (function_read s number (last t) (signature_of s t) x f)
    read_named number t x f n w b = record {
      signature = type_or_none (part_type (signature_of s t)) (part_type_named texts (signature_of s t) (signature_named t n));
      locals = all_stand f.locals (numbers_from 0 (length f.locals)) b.locals;
      tree = nodes_named x w;
    }
