-- The reading of a body: what is typed and what is known behind it are within the limit.
use Rattle.std.proofs.Common.{ℕ, [], ◌∷◌, ◌++◌, Option, Some, None}
use Rattle.go_grammar.specs.declared.kind.Kind.{Kind}
use Rattle.go_grammar.specs.declared.kind.Kind.TheVariants as kind
use Rattle.go_grammar.specs.declared.kind.Sort.TheVariants as declaring
use Rattle.go_grammar.specs.Trees.{Tree, node, Trees, none, more, skip, kind_of}
use Rattle.go_typed.specs.declared.form.Form.TheVariants as form
use Rattle.go_exprs_rules.specs.Scopes.{Scope, Hint, value}
use Rattle.go_exprs_rules.specs.Settling.{Part}
use Rattle.go_exprs_rules.specs.Tables.{Parts}
use Rattle.go_exprs_rules.specs.Typing.{typing}
use Rattle.go_stmts_defs.specs.Frames.{Frame, scope_of}
use Rattle.go_stmts_defs.specs.Laying.{told, layout, form_by}
use Rattle.go_stmts_defs.specs.Reading.{Found, is_list, is_declared_name, list_node, name_node, holding, holdings, held_faults, Reading, read, Readings, all_read, repeated, left_out, left_out_faults, is_statement, entering, beginning, closed, after, reading, readings}
use Rattle.go_stmts_defs.specs.Rules.{own_faults, built_by}
use Rattle.go_stmts_limits.specs.Limits.{PartIsWithin}
use Rattle.go_stmts_limits.proofs.Within.{MaybePart, PartsWithin, HintWithin}
use Rattle.go_stmts_limits.proofs.Values.{branch}
use Rattle.go_stmts_limits.proofs.Arrays.{AreTold}
use Rattle.go_stmts_limits.proofs.Typing.{one_more, typing_within}
use Rattle.go_stmts_limits.proofs.Statements.{told_within, layout_within, made_within, built_within}
use Rattle.go_stmts_limits.proofs.Frames.{FrameWithin, scope_judges, beginning_within, entering_within, leaving_within}

module _ (limit : Scope) (tells : AreTold) where
  -- ---- parts without statements

  list_within : (s : Frame) (k : Kind) (i j : ℕ) (ys : Parts) → PartsWithin limit ys → PartIsWithin limit (list_node s k i j ys)
  list_within s k i j ys w = made_within limit (form.Held k) i j ys ys w

  mutual
    holding_within : (s : Frame) (h : Hint) (t : Tree) → FrameWithin limit s → HintWithin limit h → PartIsWithin limit (holding s h t)
    holding_within s h (node k i j ps) a w =
        branch (PartIsWithin limit) (is_list k) (list_node s k i j (layout s k i (holdings s k h ps [] ps))) _
        (list_within s k i j (layout s k i (holdings s k h ps [] ps)) (layout_within limit s k i (holdings s k h ps [] ps) (holdings_within s k h ps [] ps a w tt)))
        (branch (PartIsWithin limit) (is_declared_name k) (name_node s i j) (typing (scope_of s) h (node k i j ps))
        (tt, tt) (typing_within limit (scope_of s) h (node k i j ps) (scope_judges limit tells s a) w))

    holdings_within : (s : Frame) (k : Kind) (h : Hint) (all : Trees) (xs : Parts) (ps : Trees) → FrameWithin limit s → HintWithin limit h → PartsWithin limit xs → PartsWithin limit (holdings s k h all xs ps)
    holdings_within s k h all xs none a w v = v
    holdings_within s k h all xs (skip ps) a w v = holdings_within s k h all (xs ++ None ∷ []) ps a w (one_more limit xs None v tt)
    holdings_within s k h all xs (more p ps) a w v =
        let g = told k h all xs (kind_of p) in
        holdings_within s k h all (xs ++ Some (holding s g p) ∷ []) ps a w (one_more limit xs (Some (holding s g p)) v (holding_within s g p a (told_within limit k h all xs (kind_of p) w)))

  repeated_within : (s : Frame) (o : Option Tree) → FrameWithin limit s → MaybePart limit (repeated s o)
  repeated_within s None a = tt
  repeated_within s (Some r) a = holding_within s value r a tt

  left_out_within : (s : Frame) (k : Kind) → FrameWithin limit s → MaybePart limit (left_out s k)
  left_out_within s (kind.Specification declaring.Constant) a = repeated_within s s.source a
  left_out_within s k a = tt

  -- ---- statements

  abbrev pub ReadWithin : Reading → Type 0
  ReadWithin (read x fs s) = PartIsWithin limit x × FrameWithin limit s

  abbrev AllReadWithin : Readings → Type 0
  AllReadWithin (all_read xs fs s) = PartsWithin limit xs × FrameWithin limit s

  after_within : (r : Reading) (next : Part → Found → Frame → Readings) → ReadWithin r → ((x : Part) (fs : Found) (s : Frame) → PartIsWithin limit x → FrameWithin limit s → AllReadWithin (next x fs s)) → AllReadWithin (after r next)
  after_within (read x fs s) next w f = f x fs s w.0 w.1

  closed_within : (before : Frame) (k : Kind) (i j : ℕ) (ps : Trees) (r : Readings) → FrameWithin limit before → AllReadWithin r → ReadWithin (closed before k i j ps r)
  closed_within before k i j ps (all_read xs fs s) b w =
      let f = form_by k xs in
      let ys = layout s k i xs in
      let own = own_faults s k f i j ys in
      let x = built_within limit s w.1.rights w.1.locals w.1.tag w.1.results k f i j ys own (layout_within limit s k i xs w.0) in
      (x, leaving_within limit k i ps (built_by s k f i j ys own) before s x b w.1)

  mutual
    pub reading_within : (s : Frame) (h : Hint) (t : Tree) → FrameWithin limit s → HintWithin limit h → ReadWithin (reading s h t)
    reading_within s h (node k i j ps) a w =
        branch ReadWithin (is_statement k) (closed s k i j ps (readings (beginning k i s) k h ps [] [] ps)) (read (holding s h (node k i j ps)) (held_faults s h (node k i j ps)) s)
        (closed_within s k i j ps (readings (beginning k i s) k h ps [] [] ps) a (readings_within (beginning k i s) k h ps [] [] ps (beginning_within limit k i s a) w tt))
        (holding_within s h (node k i j ps) a w, a)

    readings_within : (s : Frame) (k : Kind) (h : Hint) (all : Trees) (xs : Parts) (fs : Found) (ps : Trees) → FrameWithin limit s → HintWithin limit h → PartsWithin limit xs
        → AllReadWithin (readings s k h all xs fs ps)
    readings_within s k h all xs fs none a w v = (v, a)
    readings_within s k h all xs fs (skip ps) a w v =
        let e = entering k xs s in
        let b = entering_within limit k xs s v a in
        readings_within e k h all (xs ++ left_out e k ∷ []) (fs ++ left_out_faults e k) ps b w (one_more limit xs (left_out e k) v (left_out_within e k b))
    readings_within s k h all xs fs (more p ps) a w v =
        let e = entering k xs s in
        let g = told k h all xs (kind_of p) in
        after_within (reading e g p) (λ x gs t. readings t k h all (xs ++ Some x ∷ []) (fs ++ gs) ps)
        (reading_within e g p (entering_within limit k xs s v a) (told_within limit k h all xs (kind_of p) w))
        (λ x gs t u b. readings_within t k h all (xs ++ Some x ∷ []) (fs ++ gs) ps b w (one_more limit xs (Some x) v u))
