-- Switches with variables in their tags.
use Rattle.std.proofs.Common.{◌≡◌, ◌∙◌, ℕ, Bool, true, false, List, [], ◌∷◌, ◌++◌, Option, Some, None, refl, sym, ap, subst, append_assoc, append-nil}
use Rattle.std.specs.Prelude.{if◌then◌else◌, is_some}
use Rattle.go_base.specs.declared.fault.FaultCode.TheVariants as code
use Rattle.go_grammar.specs.declared.kind.Kind.TheVariants as kind
use Rattle.go_grammar.specs.Trees.{Tree, Trees, node, none, more, skip}
use Rattle.go_types.specs.Trees.{TypeTree, boolean}
use Rattle.go_types.specs.Relations.{Rights}
use Rattle.go_typed.specs.declared.form.Form.TheVariants as form
use Rattle.go_typed.specs.Trees.{typed, sort_of, form_of, list_of, row}
use Rattle.go_typed.specs.Trees as sort
use Rattle.go_exprs_rules.specs.declared.fault.TypeFault.{TypeFault}
use Rattle.go_exprs_rules.specs.declared.family.OpenKind.{OpenKind}
use Rattle.go_exprs_rules.specs.Scopes.{Hint, value}
use Rattle.go_exprs_rules.specs.Settling.{Part, default, given, defaulted, at_part, undefaulted}
use Rattle.go_exprs_rules.specs.Sorts.{Stands, is_nil, open_kind, own_type}
use Rattle.go_exprs_rules.specs.Tables.{Parts, is_held}
use Rattle.go_stmts_defs.specs.Assigning.{Taking, takes, rests}
use Rattle.go_stmts_defs.specs.Frames.{Frame, rights_of}
use Rattle.go_stmts_defs.specs.Laying.{header_parts}
use Rattle.go_stmts_defs.specs.Reading.{Found, all_read, reading, readings, tag_in, tag_of, last_of_list, tag_behind}
use Rattle.go_stmts_defs.specs.Rules.{all_given, tag_failing}
use Rattle.go_exprs_variables.specs.Stood.{Stood, as_before}
use Rattle.go_exprs_variables.specs.Variables.{Standins, with_variables, all_with_variables, begun, Fits, AllFit, no_rule_fails, ExpressionsTyped}
use Rattle.go_exprs_variables.proofs.Public.{all_of, each, new_part, news, news_each, no_place, of_all}
use Rattle.go_stmts_variables.specs.Frames.{FramesStand}
use Rattle.go_stmts_variables.specs.Statements.{tree_in, found_in, frame_in, TagAt, Tagged, AllTagged}
use Rattle.go_stmts_variables.specs.Steady.{ClausesKeep, Steady, PartsSteady}
use Rattle.go_stmts_variables.proofs.Basics.{undefaulted_any}
use Rattle.go_stmts_variables.proofs.Branches.{AllStatedIf, condition_roles, second}
use Rattle.go_stmts_variables.proofs.Clauses.{AllClauses, are_clauses, clauses_read}
use Rattle.go_stmts_variables.proofs.Conditions.{tag_kept}
use Rattle.go_stmts_variables.proofs.Endings.{AllCalm, CalmBehind}
use Rattle.go_stmts_variables.proofs.Expressions.{Will, IsValuePart}
use Rattle.go_stmts_variables.proofs.Frames.{back_stands, tag_moved, with_tag_stands}
use Rattle.go_stmts_variables.proofs.Headers.{Header, begun_plain, header_new, list_begun}
use Rattle.go_stmts_variables.proofs.Nodes.{Reads, Old, old_rules, old_fits, old_tagged, rule_of, own_none, node_reads, judged}
use Rattle.go_stmts_variables.proofs.Puts.{Puts, IsStatementForm, value_put, node_put}
use Rattle.go_stmts_variables.proofs.Returns.{takes_known}
use Rattle.go_stmts_variables.proofs.Roles.{Roles, Awaits, Values}
use Rattle.go_stmts_variables.proofs.Rows.{after_is, AreStated, RowSteady, new_stated, statement_put, statements_of, statement_faults, frame_behind, statements_put}
use Rattle.go_stmts_variables.proofs.Wills.{will_default, operand_default}

-- ---- the rows of a switch: its header, and clauses behind it, which know the tag

abbrev pub tagged : Option Part → Frame → Frame
tagged o f = record f { tag = tag_behind o }

abbrev pub switch_behind : Option Part → Frame → Trees → Frame
switch_behind o f none = f
switch_behind o f (more p ps) = frame_behind (tagged o f) (more p ps)
switch_behind o f (skip ps) = frame_behind (tagged o f) (skip ps)

module _ (h : Hint) (all : Trees) where
  later_reads : (f : Frame) (x y : Option Part) (xs : Parts) (fs : Found) (ps : Trees) → AreStated ps
      → readings f kind.Switch h all (x ∷ y ∷ xs) fs ps ≡ all_read ((x ∷ y ∷ xs) ++ each (statements_of f ps)) (fs ++ statement_faults f ps) (frame_behind f ps)
  later_reads f x y xs fs none e = ap (λ z. all_read z fs f) (sym (append-nil (x ∷ y ∷ xs))) ∙ ap (λ z. all_read ((x ∷ y ∷ xs) ++ []) z f) (sym (append-nil fs))
  later_reads f x y xs fs (skip ps) e = elim e [ ]
  later_reads f x y xs fs (more p ps) e =
      let r = reading f value p in
      let ss = each (statements_of (frame_in r) ps) in
      let gs = statement_faults (frame_in r) ps in
      after_is r (λ z gs t. readings t kind.Switch h all ((x ∷ y ∷ xs) ++ Some z ∷ []) (fs ++ gs) ps)
      ∙ later_reads (frame_in r) x y (xs ++ Some (tree_in r) ∷ []) (fs ++ found_in r) ps e.1
      ∙ ap (λ z. all_read z ((fs ++ found_in r) ++ gs) (frame_behind (frame_in r) ps)) (append_assoc (x ∷ y ∷ xs) (Some (tree_in r) ∷ []) ss)
      ∙ ap (λ z. all_read ((x ∷ y ∷ xs) ++ Some (tree_in r) ∷ ss) z (frame_behind (frame_in r) ps)) (append_assoc fs (found_in r) gs)

  switch_rows : (f : Frame) (o : Option Part) (fs : Found) (ps : Trees) → AreStated ps
      → readings f kind.Switch h all (o ∷ []) fs ps ≡ all_read (o ∷ each (statements_of (tagged o f) ps)) (fs ++ statement_faults (tagged o f) ps) (switch_behind o f ps)
  switch_rows f o fs none e = ap (λ z. all_read (o ∷ []) z f) (sym (append-nil fs))
  switch_rows f o fs (skip ps) e = elim e [ ]
  switch_rows f o fs (more p ps) e =
      let r = reading (tagged o f) value p in
      let ss = each (statements_of (frame_in r) ps) in
      let gs = statement_faults (frame_in r) ps in
      after_is r (λ z gs t. readings t kind.Switch h all (o ∷ Some z ∷ []) (fs ++ gs) ps)
      ∙ later_reads (frame_in r) o (Some (tree_in r)) [] (fs ++ found_in r) ps e.1
      ∙ ap (λ z. all_read (o ∷ Some (tree_in r) ∷ ss) z (frame_behind (frame_in r) ps)) (append_assoc fs (found_in r) gs)

  -- each is steady where it begins
  later_steady : (f : Frame) (x y : Option Part) (xs : Parts) (ps : Trees) → AreStated ps → PartsSteady f kind.Switch h all (x ∷ y ∷ xs) ps → RowSteady f ps
  later_steady f x y xs none e s = tt
  later_steady f x y xs (skip ps) e s = elim e [ ]
  later_steady f x y xs (more p ps) e s = (s.0, later_steady (frame_in (reading f value p)) x y (xs ++ Some (tree_in (reading f value p)) ∷ []) ps e.1 s.1)

  switch_steady : (f : Frame) (o : Option Part) (ps : Trees) → AreStated ps → PartsSteady f kind.Switch h all (o ∷ []) ps → RowSteady (tagged o f) ps
  switch_steady f o none e s = tt
  switch_steady f o (skip ps) e s = elim e [ ]
  switch_steady f o (more p ps) e s = (s.0, later_steady (frame_in (reading (tagged o f) value p)) o (Some (tree_in (reading (tagged o f) value p))) [] ps e.1 s.1)

-- a truth value is one by any right sides
truths_keep : (f : Frame) (ps : Trees) → ClausesKeep (Some boolean) f ps
truths_keep f none = tt
truths_keep f (more p ps) = (refl, truths_keep (frame_in (reading f value p)) ps)
truths_keep f (skip ps) = truths_keep f ps

-- ---- default types

no_nil : (b : Bool) (x : Part) (fs : List TypeFault) → (if b then at_part code.Operands x else fs) ≡ [] → fs ≡ []
no_nil true x fs e = absurd (no_place code.Operands x e)
no_nil false x fs e = e

-- ---- tags have types

typed_tag : (z : Stands) → is_some (own_type z) ≡ true → is_some (own_type (tag_in z)) ≡ true
typed_tag (sort.Value t) e = refl
typed_tag (sort.Constant t c) e = refl
typed_tag z e = cc

open_tag : (z : Stands) (k : OpenKind) → open_kind z ≡ Some k → is_some (own_type (tag_in z)) ≡ true
open_tag (sort.Open u) k e = refl
open_tag (sort.OpenConstant c) k e = refl
open_tag z k e = cc

default_tag : (x : Part) → is_some (own_type (sort_of (given default x))) ≡ true → is_some (own_type (tag_in (sort_of x))) ≡ true
default_tag x e = by (open_kind (sort_of x)) refl e
  where
    by : (o : Option OpenKind) → open_kind (sort_of x) ≡ o → is_some (own_type (sort_of (defaulted o x))) ≡ true → is_some (own_type (tag_in (sort_of x))) ≡ true
    by None m e = typed_tag (sort_of x) e
    by (Some k) m e = open_tag (sort_of x) k m

the_type : (o : Option TypeTree) → is_some o ≡ true → (t : TypeTree) × (o ≡ Some t)
the_type (Some t) e = (t, refl)
the_type None e = cc

module _ (w : Standins) where
  -- ---- the part that is the tag

  abbrev pub tag_part : Option Part → Option Part
  tag_part (Some (typed (form.Held kind.LateTag) i j l ps)) = last_of_list (list_of ps)
  tag_part (Some (typed (form.Held kind.InitializedTag) i j l ps)) = last_of_list (list_of ps)
  tag_part x = x

  tag_is : (x : Option Part) → tag_behind x ≡ tag_of (tag_part x)
  tag_is None = refl
  tag_is (Some (typed (form.Held kind.LateTag) i j l ps)) = refl
  tag_is (Some (typed (form.Held kind.InitializedTag) i j l ps)) = refl
  tag_is (Some (typed (form.Held k) i j l ps)) = refl
  tag_is (Some (typed f i j l ps)) = refl

  last_new : (xs : Parts) → last_of_list (news w xs) ≡ new_part w (last_of_list xs)
  last_new [] = refl
  last_new (x ∷ []) = refl
  last_new (x ∷ y ∷ xs) = last_new (y ∷ xs)

  pub plain_tag : (x : Part) → is_held (form_of x) ≡ false → tag_part (Some x) ≡ Some x
  plain_tag (typed (form.Held k) i j l ps) e = cc
  plain_tag (typed f i j l ps) e = refl

  tag_new : (x : Option Part) → tag_part (new_part w x) ≡ new_part w (tag_part x)
  tag_new None = refl
  tag_new (Some (typed (form.Held kind.LateTag) i j l ps)) = ap last_of_list (list_begun w ps) ∙ last_new (list_of ps)
  tag_new (Some (typed (form.Held kind.InitializedTag) i j l ps)) = ap last_of_list (list_begun w ps) ∙ last_new (list_of ps)
  tag_new (Some (typed (form.Held k) i j l ps)) = refl
  tag_new (Some (typed f i j l ps)) = plain_tag (begun w false (typed f i j l ps)) (begun_plain w f i j l ps refl)

  -- ---- a statement and the tag, each of which may be left out

  abbrev WillIf : Option Part → Type 0
  WillIf (Some x) = (r : Rights) → Will w r x
  WillIf None = Unit {0}

  abbrev ValueIf : Option Part → Type 0
  ValueIf (Some x) = IsValuePart w x
  ValueIf None = Unit {0}

  abbrev DefaultIf : Option Part → Type 0
  DefaultIf (Some x) = Fits w false (given default x)
  DefaultIf None = Unit {0}

  record Pair (hs : Parts) : Type 0 where
    pub first : Option Part
    pub tag : Option Part
    pub is : hs ≡ first ∷ tag ∷ []
    pub stated : AllStatedIf w (first ∷ [])
    pub awaits : AllFit w false (row (first ∷ [])) → AllTagged (row (first ∷ [])) → WillIf tag → Awaits w condition_roles hs
    pub values : Values w condition_roles hs → ValueIf tag

  pair : (hs : Parts) → Roles w condition_roles hs → Pair hs
  pair [] r = elim r [ ]
  pair (None ∷ []) r = elim r [ ]
  pair (Some a ∷ []) r = elim r.1 [ ]
  pair (None ∷ None ∷ []) r = record { first = None; tag = None; is = refl; stated = tt; awaits = λ f t v. tt; values = λ v. tt }
  pair (None ∷ Some c ∷ []) r = record { first = None; tag = Some c; is = refl; stated = tt; awaits = λ f t v. (v, tt); values = λ v. v.0 }
  pair (Some a ∷ None ∷ []) r = record { first = Some a; tag = None; is = refl; stated = (r.0, tt); awaits = λ f t v. ((f.0, t.0), tt); values = λ v. tt }
  pair (Some a ∷ Some c ∷ []) r = record { first = Some a; tag = Some c; is = refl; stated = (r.0, tt); awaits = λ f t v. ((f.0, t.0), (v, tt)); values = λ v. v.0 }
  pair (None ∷ None ∷ y ∷ ys) r = elim r [ ]
  pair (None ∷ Some c ∷ y ∷ ys) r = elim r [ ]
  pair (Some a ∷ None ∷ y ∷ ys) r = elim r.1 [ ]
  pair (Some a ∷ Some c ∷ y ∷ ys) r = elim r.1 [ ]

  abbrev tag_takes : List Taking
  tag_takes = rests ∷ takes default ∷ []

  abbrev laid : Option Part → Option Part → Parts → Parts
  laid a c ys = a ∷ c ∷ ys

  tag_fits : (a c : Option Part) (ys : Parts) → AllFit w false (row (all_given tag_takes (laid a c ys))) → AllFit w false (row (a ∷ [])) × DefaultIf c × AllFit w false (row ys)
  tag_fits None None ys fits = (tt, tt, fits)
  tag_fits None (Some c) ys fits = (tt, fits.0, fits.1)
  tag_fits (Some a) None ys fits = ((fits.0, tt), tt, fits.1)
  tag_fits (Some a) (Some c) ys fits = ((fits.0, tt), fits.1.0, fits.1.1)

  tag_tagged : (a c : Option Part) (ys : Parts) → AllTagged (row (all_given tag_takes (laid a c ys))) → AllTagged (row (a ∷ [])) × AllTagged (row ys)
  tag_tagged None None ys tags = (tt, tags)
  tag_tagged None (Some c) ys tags = (tt, tags.1)
  tag_tagged (Some a) None ys tags = ((tags.0, tt), tags.1)
  tag_tagged (Some a) (Some c) ys tags = ((tags.0, tt), tags.1.1)

  tag_typed : (a c : Option Part) (ys : Parts) → TagAt form.Switch (row (all_given tag_takes (laid a c ys))) → (t : TypeTree) × (own_type (tag_of c) ≡ Some t)
  tag_typed a None ys tags = (boolean, refl)
  tag_typed None (Some c) ys tags = the_type (own_type (tag_of (Some c))) (default_tag c tags)
  tag_typed (Some a) (Some c) ys tags = the_type (own_type (tag_of (Some c))) (default_tag c tags)

  tag_calm : (a c : Option Part) (ys : Parts) → AllCalm w (row ys) → CalmBehind w (row (all_given tag_takes (laid a c ys)))
  tag_calm None None ys h = h
  tag_calm None (Some c) ys h = h
  tag_calm (Some a) None ys h = h
  tag_calm (Some a) (Some c) ys h = h

  tag_puts : (a c : Option Part) (ys : Parts) → AllStatedIf w (a ∷ []) → AllFit w false (row (a ∷ [])) → ValueIf c → DefaultIf c → Puts w [] ys → Puts w tag_takes (laid a c ys)
  tag_puts None None ys s fits v d p = p
  tag_puts None (Some c) ys s fits v d p = (value_put w default c v.ready d, p)
  tag_puts (Some a) None ys s fits v d p = (statement_put w a s.0 fits.0, p)
  tag_puts (Some a) (Some c) ys s fits v d p = (statement_put w a s.0 fits.0, (value_put w default c v.ready d, p))

  tag_wills : (rights : Rights) (c : Option Part) → tag_failing rights c ≡ [] → DefaultIf c → WillIf c
  tag_wills rights None e d = tt
  tag_wills rights (Some x) e d = λ r. will_default w r x (λ o. undefaulted_any rights r x (no_nil (is_nil (sort_of x)) x (undefaulted rights x) e)) d

  tags_kept : (rights : Rights) (c : Option Part) → ValueIf c → DefaultIf c → tag_failing rights c ≡ [] → (tag_failing rights (new_part w c) ≡ []) × Stood rights None (tag_of c) (tag_of (new_part w c))
  tags_kept rights None v d e = (refl, as_before None (sort.Value boolean))
  tags_kept rights (Some x) v d e = tag_kept rights x (begun w false x) (operand_default w rights x v d) e

  switch_stands : (ps : Trees) (o q : Option Part) (f g : Frame) → FramesStand w f g → FramesStand w (frame_behind (tagged o f) ps) (frame_behind (tagged q g) (all_with_variables w ps))
      → FramesStand w (switch_behind o f ps) (switch_behind q g (all_with_variables w ps))
  switch_stands none o q f g m n = m
  switch_stands (more p ps) o q f g m n = n
  switch_stands (skip ps) o q f g m n = n

  switch_form : IsStatementForm w form.Switch
  switch_form = record { held = refl; key = refl; call = refl; name = λ z. refl }

  -- ---- a switch with a header

  module _ (f g : Frame) (h : Hint) (i j : ℕ) (hd : Tree) (cs : Trees) (hf : Header w header_parts condition_roles f hd)
      (same : tag_part (Some (tree_in (reading f value hd))) ≡ second (header_parts (Some (tree_in (reading f value hd))))) (s : AllClauses w cs) (st : FramesStand w f g) where
    abbrev hd' : Part
    hd' = tree_in (reading f value hd)

    abbrev middle : Frame
    middle = frame_in (reading f value hd)

    abbrev F : Frame
    F = tagged (Some hd') middle

    abbrev xs : List Part
    xs = statements_of F cs

    abbrev pr : Pair (header_parts (Some hd'))
    pr = pair (header_parts (Some hd')) hf.stated

    switch_old : Old w f h kind.Switch i j (more hd cs)
    switch_old = record {
      parts = Some hd' ∷ each xs;
      found = found_in (reading f value hd) ++ statement_faults F cs;
      behind = switch_behind (Some hd') middle cs;
      form = form.Switch;
      laid = pr.first ∷ pr.tag ∷ each xs;
      is = after_is (reading f value hd) (λ x gs t. readings t kind.Switch h (more hd cs) (Some x ∷ []) gs cs) ∙ switch_rows h (more hd cs) middle (Some hd') (found_in (reading f value hd)) cs (are_clauses w cs s);
      laid_is = ap (λ z. z ++ each xs) pr.is;
      form_is = refl;
    }

    tag_there : tag_part (Some hd') ≡ pr.tag
    tag_there = same ∙ ap second pr.is

    pub switch_reads : ExpressionsTyped → no_rule_fails (found_in (reading f h (node kind.Switch i j (more hd cs)))) ≡ true → Fits w false (tree_in (reading f h (node kind.Switch i j (more hd cs))))
        → Tagged (tree_in (reading f h (node kind.Switch i j (more hd cs)))) → Steady f h (node kind.Switch i j (more hd cs)) → Reads w f g h (node kind.Switch i j (more hd cs))
    unfolding switch_old
    switch_reads law good fits tags steady =
        let ys : Parts = pr.first ∷ pr.tag ∷ each xs in
        let S = switch_behind (Some hd') middle cs in
        let R = rights_of S in
        let own = old_rules w f h kind.Switch i j (more hd cs) refl switch_old good in
        let all = old_fits w f h kind.Switch i j (more hd cs) refl switch_old own.1 fits in
        let three = tag_fits pr.first pr.tag (each xs) all in
        let found_tags = old_tagged w f h kind.Switch i j (more hd cs) refl switch_old own.1 tags in
        let type = tag_typed pr.first pr.tag (each xs) found_tags.0 in
        let tagged_parts = tag_tagged pr.first pr.tag (each xs) found_tags.1 in
        let known = judged w tag_takes ys (takes_known w tag_takes ys tt) all in
        let rule : tag_failing R pr.tag ≡ [] = rule_of w f h kind.Switch i j (more hd cs) refl S form.Switch ys known own.1 in
        let found = all_of (found_in (reading f value hd)) (statement_faults F cs) own.0 in
        let hr = hf.read g st found.0 (pr.awaits three.0 tagged_parts.0 (tag_wills R pr.tag rule three.1)) steady.1.0 in
        let v = pr.values hr.values in
        let kept = tags_kept R pr.tag v three.1 rule in
        let new_hd = with_variables w hd in
        let hd'' = tree_in (reading g value new_hd) in
        let middle' = frame_in (reading g value new_hd) in
        let G = tagged (Some hd'') middle' in
        let new_cs = all_with_variables w cs in
        let tag_old : F.tag ≡ tag_of pr.tag = tag_is (Some hd') ∙ ap tag_of tag_there in
        let tag_now : G.tag ≡ tag_of (new_part w pr.tag) = ap (λ z. tag_behind (Some z)) hr.reads.tree ∙ tag_is (Some (begun w false hd')) ∙ ap tag_of (tag_new (Some hd') ∙ ap (new_part w) tag_there) in
        let stood : Stood (rights_of middle) None F.tag G.tag =
        subst (λ z. Stood (rights_of middle) None z G.tag) (sym tag_old) (subst (λ z. Stood (rights_of middle) None (tag_of pr.tag) z) (sym tag_now) (tag_moved R (rights_of middle) (tag_of pr.tag) (tag_of (new_part w pr.tag)) kept.1)) in
        let inner = with_tag_stands w middle middle' F.tag G.tag stood hr.reads.frame in
        let has_type : own_type F.tag ≡ Some type.0 = ap own_type tag_old ∙ type.1 in
        let keeps = subst (λ o. ClausesKeep o F cs) has_type steady.0 in
        let rows = clauses_read w F G cs type.0 has_type keeps s inner found.1 three.2 tagged_parts.1 (switch_steady h (more hd cs) middle (Some hd') cs (are_clauses w cs s) steady.1.1) in
        let T = switch_behind (Some hd'') middle' new_cs in
        let behind : FramesStand w S T = switch_stands cs (Some hd') (Some hd'') middle middle' hr.reads.frame rows.frame in
        node_reads w f g h kind.Switch i j (more hd cs) switch_old refl refl own.1
        (record {
          parts = Some hd'' ∷ each (statements_of G new_cs);
          found = found_in (reading g value new_hd) ++ statement_faults G new_cs;
          behind = T;
          is = after_is (reading g value new_hd) (λ x gs t. readings t kind.Switch h (more new_hd new_cs) (Some x ∷ []) gs new_cs)
              ∙ switch_rows h (more new_hd new_cs) middle' (Some hd'') (found_in (reading g value new_hd)) new_cs (new_stated w cs (are_clauses w cs s));
          laid_is = ap (λ z. header_parts (Some z) ++ each (statements_of G new_cs)) hr.reads.tree ∙ ap (λ z. z ++ each (statements_of G new_cs)) (header_new w (Some hd') ∙ ap (news w) pr.is)
              ∙ ap (λ z. new_part w pr.first ∷ new_part w pr.tag ∷ z) (ap each rows.trees ∙ sym (news_each w xs));
          form_is = refl;
          good = of_all (found_in (reading g value new_hd)) (statement_faults G new_cs) hr.reads.failing rows.good;
          rule = own_none w g h kind.Switch i j (more new_hd new_cs) refl T form.Switch (news w ys) (ap (λ q. tag_failing q (new_part w pr.tag)) behind.rights ∙ kept.0);
          node = node_put w form.Switch i j tag_takes ys switch_form (tag_puts pr.first pr.tag (each xs) pr.stated three.0 v three.1 (statements_put w F cs (are_clauses w cs s) three.2));
          frame = back_stands w f g S T st behind;
          calm = tag_calm pr.first pr.tag (each xs) rows.calm;
        })

  -- ---- a switch without one

  module _ (f g : Frame) (h : Hint) (i j : ℕ) (cs : Trees) (s : AllClauses w cs) (st : FramesStand w f g) where
    abbrev B : Frame
    B = tagged None f

    abbrev zs : List Part
    zs = statements_of B cs

    bare_old : Old w f h kind.Switch i j (skip cs)
    bare_old = record {
      parts = None ∷ each zs;
      found = statement_faults B cs;
      behind = switch_behind None f cs;
      form = form.Switch;
      laid = None ∷ None ∷ each zs;
      is = switch_rows h (skip cs) f None [] cs (are_clauses w cs s);
      laid_is = refl;
      form_is = refl;
    }

    pub bare_switch : no_rule_fails (found_in (reading f h (node kind.Switch i j (skip cs)))) ≡ true → Fits w false (tree_in (reading f h (node kind.Switch i j (skip cs))))
        → Tagged (tree_in (reading f h (node kind.Switch i j (skip cs)))) → Steady f h (node kind.Switch i j (skip cs)) → Reads w f g h (node kind.Switch i j (skip cs))
    unfolding bare_old
    bare_switch good fits tags steady =
        let ys : Parts = None ∷ None ∷ each zs in
        let S = switch_behind None f cs in
        let own = old_rules w f h kind.Switch i j (skip cs) refl bare_old good in
        let all = old_fits w f h kind.Switch i j (skip cs) refl bare_old own.1 fits in
        let tagged_parts = (old_tagged w f h kind.Switch i j (skip cs) refl bare_old own.1 tags).1 in
        let new_cs = all_with_variables w cs in
        let C = tagged None g in
        let inner = with_tag_stands w f g (sort.Value boolean) (sort.Value boolean) (as_before None (sort.Value boolean)) st in
        let rows = clauses_read w B C cs boolean refl (truths_keep B cs) s inner own.0 all tagged_parts (switch_steady h (skip cs) f None cs (are_clauses w cs s) steady.1) in
        let T = switch_behind None g new_cs in
        let behind : FramesStand w S T = switch_stands cs None None f g st rows.frame in
        node_reads w f g h kind.Switch i j (skip cs) bare_old refl refl own.1
        (record {
          parts = None ∷ each (statements_of C new_cs);
          found = statement_faults C new_cs;
          behind = T;
          is = switch_rows h (skip new_cs) g None [] new_cs (new_stated w cs (are_clauses w cs s));
          laid_is = ap (λ z. None ∷ None ∷ z) (ap each rows.trees ∙ sym (news_each w zs));
          form_is = refl;
          good = rows.good;
          rule = own_none w g h kind.Switch i j (skip new_cs) refl T form.Switch (news w ys) refl;
          node = node_put w form.Switch i j tag_takes ys switch_form (tag_puts None None (each zs) tt tt tt tt (statements_put w B cs (are_clauses w cs s) all));
          frame = back_stands w f g S T st behind;
          calm = tag_calm None None (each zs) rows.calm;
        })
