-- Rules on the names that a function declares, with runs replaced: none is declared twice, each `:=` has a new one, and each variable is
-- used.
use Rattle.std.proofs.Common.{◌≡◌, ◌∙◌, ℕ, suc, ◌+◌, ◌<◌, ◌≤◌, ◌⊎◌, inl, inr, Bool, true, false, List, [], ◌∷◌, ◌++◌, Option, Some, None, refl, sym, ap, subst, arith}
use Rattle.std.specs.Prelude.{if◌then◌else◌, ◌&&◌, ◌||◌, not, nat_eq}
use Rattle.go_tokens.specs.Spellings.{same_text}
use Rattle.go_rewriting.specs.Places.{become}
use Rattle.go_tree.specs.declared.context.Block.{Block}
use Rattle.go_tree.specs.declared.context.Block.TheVariants as block
use Rattle.go_tree.specs.declared.context.Entity.{Entity}
use Rattle.go_tree.specs.declared.context.Entity.TheVariants as entity
use Rattle.go_tree.specs.declared.context.Role.{Role}
use Rattle.go_tree.specs.declared.context.Role.TheVariants as role
use Rattle.go_tree.specs.declared.event.Declaration.{Declaration}
use Rattle.go_tree.specs.declared.event.Event.{Event}
use Rattle.go_tree.specs.declared.event.Event.TheVariants as event
use Rattle.go_tree.specs.declared.event.Use.{Use}
use Rattle.go_tree.specs.declared.object.Object.{Object}
use Rattle.go_tree.specs.declared.object.Object.TheVariants as object
use Rattle.go_tree.specs.Contexts.{is_package, file_context}
use Rattle.go_tree.specs.Declarations.{Found, are_one_block, same_block, is_new, new_among}
use Rattle.go_tree.specs.Failures.{place_if}
use Rattle.go_tree.specs.Lookups.{Asked, is_assigned, is_counted, means, is_used, unused_variables}
use Rattle.go_tree.specs.Meanings.{Meaning}
use Rattle.go_tree.specs.Objects.{is_declared_at}
use Rattle.go_tree.specs.Redeclared.{are_parameters, clashes, has_clash, second_declarations, is_by_define, same_statement, has_new, none_new}
use Rattle.go_tree.specs.Units.{is_blank}
use Rattle.go_scopes_events.specs.Scopes.{otherwise}
use Rattle.go_heads.specs.Functions.{Alone}
use Rattle.go_heads.specs.Names.{own_text, own_names, own_declarations}
use Rattle.go_scopes_bodies.specs.Carried.{carried_block, carried_declaration, carried_event, carried_role, carried_use}
use Rattle.go_scopes_bodies.specs.Faults.{outer_meaning, own_ask, own_asked, own_second_declarations, own_none_new, own_unused}
use Rattle.go_scopes_bodies.specs.Meant.{Meant, own, Outer, own_local, or_outside, own_meant}
use Rattle.extract_names.specs.Gaps.{Gap, moved_by, Among, IsInRun, Stays, AtEdge, BlockAtEdge}
use Rattle.extract_names.specs.Pieces.{TellsPieces}
use Rattle.extract_names.specs.Sites.{found_as, declared_at, token_of, DeclarationStays, EventStays, EventGoes, IsSite, UsedThere, DeclaredStill, declared_behind, token_in, renamed}
use Rattle.extract_names.proofs.Edges.{is_eq, eq_true, not_eq}
use Rattle.extract_names.proofs.Founds.{RiseFrom, find, find_self, IsObject, object_found, meaning_found}
use Rattle.extract_names.proofs.Rows.{both_true, and_true, on_off, every_among, ClashFree}
use Rattle.extract_names.proofs.Replaced.{among_left, among_right, among_split, among_new, among_found, found_among, new_found, clash_free, block_same, in_block}
use Rattle.extract_names.proofs.Replaced as replaced
use Rattle.extract_names.proofs.Kept as kept
use Rattle.extract_names.proofs.Asked as asked

-- ---- lists

pub new_is : (all : List Found) (x : Found) (ds : List Found) → Among x (new_among all ds) → is_new all x ≡ true
new_is all x [] k = absurd k
new_is all x (d ∷ ds) k = by (is_new all d) refl k (new_is all x ds)
  where
    by : (b : Bool) → is_new all d ≡ b → Among x (if b then d ∷ new_among all ds else new_among all ds) → (Among x (new_among all ds) → is_new all x ≡ true) → is_new all x ≡ true
    by true q (inl e) go = subst (λ z. is_new all z ≡ true) (sym e) q
    by true q (inr k) go = go k
    by false q k go = go k

text_flip : (x y : List ℕ) → same_text x y ≡ same_text y x
text_flip [] [] = refl
text_flip [] (y ∷ ys) = refl
text_flip (x ∷ xs) [] = refl
text_flip (x ∷ xs) (y ∷ ys) = ap (λ b. b && same_text xs ys) (flip x y) ∙ ap (λ b. nat_eq y x && b) (text_flip xs ys)
  where
    flip : (x y : ℕ) → nat_eq x y ≡ nat_eq y x
    flip x y = by (nat_eq y x) refl
      where
        by : (b : Bool) → nat_eq y x ≡ b → nat_eq x y ≡ b
        by true e = is_eq x y (sym (eq_true y x e))
        by false e = not_eq x y (λ p. on_off (nat_eq y x) (is_eq y x (sym p)) e)

number_flip : (x y : ℕ) → nat_eq x y ≡ nat_eq y x
number_flip x y = by (nat_eq y x) refl
  where
    by : (b : Bool) → nat_eq y x ≡ b → nat_eq x y ≡ b
    by true e = is_eq x y (sym (eq_true y x e))
    by false e = not_eq x y (λ p. on_off (nat_eq y x) (is_eq y x (sym p)) e)

block_flip : (m n : ℕ) (b c : Block) → are_one_block m b n c ≡ are_one_block n c m b
block_flip m n block.Package block.Package = refl
block_flip m n block.Package (block.Local j) = refl
block_flip m n (block.Local i) block.Package = refl
block_flip m n (block.Local i) (block.Local j) = ap (λ b. b && nat_eq i j) (number_flip m n) ∙ ap (λ b. nat_eq n m && b) (number_flip i j)

parameters_flip : (x y : Entity) → are_parameters x y ≡ are_parameters y x
parameters_flip entity.Parameter entity.Parameter = refl
parameters_flip entity.Parameter entity.Constant = refl
parameters_flip entity.Parameter entity.Type = refl
parameters_flip entity.Parameter entity.Variable = refl
parameters_flip entity.Parameter entity.Function = refl
parameters_flip entity.Constant entity.Parameter = refl
parameters_flip entity.Type entity.Parameter = refl
parameters_flip entity.Variable entity.Parameter = refl
parameters_flip entity.Function entity.Parameter = refl
parameters_flip x y = refl

pub clash_flip : (x y : Found) → clashes x y ≡ clashes y x
clash_flip x y =
    ap (λ b. (b && same_block x y) && not (are_parameters x.it.entity y.it.entity)) (text_flip x.name y.name)
    ∙ ap (λ b. (same_text y.name x.name && b) && not (are_parameters x.it.entity y.it.entity)) (block_flip x.file y.file x.it.block y.it.block)
    ∙ ap (λ b. (same_text y.name x.name && same_block y x) && not b) (parameters_flip x.it.entity y.it.entity)

-- two of them don't clash
pub any_two : (ds : List Found) → ClashFree ds → (x y : Found) → Among x ds → Among y ds → (x.it.name ≡ y.it.name → ⊥) → clashes x y ≡ false
any_two [] h x y k l n = absurd k
any_two (d ∷ ds) h x y (inl e) (inl f) n = absurd (n (ap (λ (z : Found). z.it.name) (e ∙ sym f)))
any_two (d ∷ ds) h x y (inl e) (inr l) n = clash_flip x y ∙ subst (λ z. clashes y z ≡ false) (sym e) (every_among (λ e. clashes e d ≡ false) y ds h.0 l)
any_two (d ∷ ds) h x y (inr k) (inl f) n = subst (λ z. clashes x z ≡ false) (sym f) (every_among (λ e. clashes e d ≡ false) x ds h.0 k)
any_two (d ∷ ds) h x y (inr k) (inr l) n = any_two ds h.1 x y k l n

no_clash : (d : Found) (before : List Found) → ((x : Found) → Among x before → clashes d x ≡ false) → has_clash d before ≡ false
no_clash d [] f = refl
no_clash d (x ∷ xs) f = ap (λ b. b || has_clash d xs) (f x (inl refl)) ∙ no_clash d xs (λ y k. f y (inr k))

low_name : (lo : ℕ) (ds : List Found) → RiseFrom lo ds → (d : Found) → Among d ds → lo ≤ d.it.name
low_name lo [] h d k = absurd k
low_name lo (x ∷ ds) h d (inl e) = subst (λ (z : Found). lo ≤ z.it.name) (sym e) h.0
low_name lo (x ∷ ds) h d (inr k) = let a : lo ≤ x.it.name = h.0 in let b : suc x.it.name ≤ d.it.name = low_name (suc x.it.name) ds h.1 d k in omega (arith, a, b)

-- no name is declared twice where no two clash
pub none_second : (lo : ℕ) (before ds : List Found) → RiseFrom lo ds → ((x : Found) → Among x before → x.it.name < lo) → ((x y : Found) → Among x (before ++ ds) → Among y (before ++ ds) → (x.it.name ≡ y.it.name → ⊥) → clashes x y ≡ false) → second_declarations before ds ≡ []
none_second lo before [] r b f = refl
none_second lo before (d ∷ ds) r b f =
    let le : lo ≤ d.it.name = r.0 in
    ap (λ c. place_if c d.place (second_declarations (before ++ d ∷ []) ds)) (no_clash d before (λ x k. f d x (among_right d before (d ∷ ds) (inl refl)) (among_left x before (d ∷ ds) k) (λ e. let lt : x.it.name < lo = b x k in omega (arith, e, lt, le))))
    ∙ none_second (suc d.it.name) (before ++ d ∷ []) ds r.1 (λ x k. low x (among_split x before (d ∷ []) k) le) (λ x y k l. f x y (moved x k) (moved y l))
  where
    low : (x : Found) → Among x before ⊎ Among x (d ∷ []) → lo ≤ d.it.name → x.it.name < suc d.it.name
    low x (inl k) le = let lt : x.it.name < lo = b x k in omega (arith, lt, le)
    low x (inr (inl e)) le = let n : x.it.name ≡ d.it.name = ap (λ (z : Found). z.it.name) e in omega (arith, n)
    low x (inr (inr k)) le = absurd k

    last : (x : Found) → Among x before ⊎ Among x (d ∷ []) → Among x (before ++ d ∷ ds)
    last x (inl k) = among_left x before (d ∷ ds) k
    last x (inr (inl e)) = among_right x before (d ∷ ds) (inl e)
    last x (inr (inr k)) = absurd k

    moved : (x : Found) → Among x ((before ++ d ∷ []) ++ ds) → Among x (before ++ d ∷ ds)
    moved x k = by (among_split x (before ++ d ∷ []) ds k)
      where
        by : Among x (before ++ d ∷ []) ⊎ Among x ds → Among x (before ++ d ∷ ds)
        by (inl k) = last x (among_split x before (d ∷ []) k)
        by (inr k) = among_right x before (d ∷ ds) (inr k)

stays_at : (g : Gap) (gs : List Gap) (t : ℕ) → Stays gs t → Among g gs → (t < g.from) ⊎ (g.upto ≤ t)
stays_at g [] t h k = absurd k
stays_at g (f ∷ gs) t h (inl q) = subst (λ (z : Gap). (t < z.from) ⊎ (z.upto ≤ t)) (sym q) h.0
stays_at g (f ∷ gs) t h (inr k) = stays_at g gs t h.1 k

not_in : (g : Gap) (t : ℕ) → IsInRun g t → (t < g.from) ⊎ (g.upto ≤ t) → ⊥
not_in g t r (inl lt) = let le : g.from ≤ t = r.0 in omega (arith, le, lt)
not_in g t r (inr le) = let lt : t < g.upto = r.1 in omega (arith, le, lt)

-- ---- new names of `:=`

pub new_found_of : (x : Found) (ds : List Found) → has_new x ds ≡ true → (d : Found) × Among d ds × (same_statement x d ≡ true)
new_found_of x [] e = cc
new_found_of x (d ∷ ds) e = by (same_statement x d) refl e (new_found_of x ds)
  where
    by : (b : Bool) → same_statement x d ≡ b → (b || has_new x ds) ≡ true → (has_new x ds ≡ true → (y : Found) × Among y ds × (same_statement x y ≡ true)) → (y : Found) × Among y (d ∷ ds) × (same_statement x y ≡ true)
    by true q e go = (d, inl refl, q)
    by false q e go = let y = go e in (y.0, inr y.1, y.2)

pub new_told : (x : Found) (ds : List Found) (d : Found) → Among d ds → same_statement x d ≡ true → has_new x ds ≡ true
new_told x [] d k e = absurd k
new_told x (y ∷ ds) d (inl q) e = ap (λ b. b || has_new x ds) (subst (λ z. same_statement x z ≡ true) q e)
new_told x (y ∷ ds) d (inr k) e = by (same_statement x y) (new_told x ds d k e)
  where
    by : (b : Bool) → has_new x ds ≡ true → (b || has_new x ds) ≡ true
    by true e = refl
    by false e = e

abbrev pub LacksNew : List Found → Found → Type 0
LacksNew ds x = (is_by_define x.it.manner && nat_eq x.it.column 0 && not (has_new x ds)) ≡ false

pub none_lacks : (ds xs : List Found) → none_new ds xs ≡ [] → (x : Found) → Among x xs → LacksNew ds x
none_lacks ds [] e x k = absurd k
none_lacks ds (y ∷ xs) e x k = by (is_by_define y.it.manner && nat_eq y.it.column 0 && not (has_new y ds)) refl e k (λ f l. none_lacks ds xs f x l)
  where
    by : (b : Bool) → (is_by_define y.it.manner && nat_eq y.it.column 0 && not (has_new y ds)) ≡ b → place_if b y.place (none_new ds xs) ≡ [] → Among x (y ∷ xs) → (none_new ds xs ≡ [] → Among x xs → LacksNew ds x) → LacksNew ds x
    by true q e k go = cc
    by false q e (inl p) go = subst (LacksNew ds) (sym p) q
    by false q e (inr l) go = go e l

pub lacks_none : (ds xs : List Found) → ((x : Found) → Among x xs → LacksNew ds x) → none_new ds xs ≡ []
lacks_none ds [] f = refl
lacks_none ds (x ∷ xs) f = ap (λ b. place_if b x.place (none_new ds xs)) (f x (inl refl)) ∙ lacks_none ds xs (λ y k. f y (inr k))

-- ---- unused variables

abbrev pub IsSpent : List Asked → Found → Type 0
IsSpent asks d = (is_counted d.it.entity d.it.block && not (is_used d asks)) ≡ false

pub spent_none : (asks : List Asked) (ds : List Found) → ((d : Found) → Among d ds → IsSpent asks d) → unused_variables asks ds ≡ []
spent_none asks [] f = refl
spent_none asks (d ∷ ds) f = ap (λ b. place_if b d.place (unused_variables asks ds)) (f d (inl refl)) ∙ spent_none asks ds (λ x k. f x (inr k))

pub used_told : (d : Found) (asks : List Asked) (x : Asked) → Among x asks → means d x.meaning ≡ true → is_assigned x.it.role ≡ false → is_used d asks ≡ true
used_told d [] x k e f = absurd k
used_told d (y ∷ asks) x (inl q) e f = ap (λ b. b || is_used d asks) (subst (λ (z : Asked). (means d z.meaning && not (is_assigned z.it.role)) ≡ true) q (and_true (means d x.meaning) (not (is_assigned x.it.role)) e (ap not f)))
used_told d (y ∷ asks) x (inr k) e f = by (means d y.meaning && not (is_assigned y.it.role)) (used_told d asks x k e f)
  where
    by : (b : Bool) → is_used d asks ≡ true → (b || is_used d asks) ≡ true
    by true e = refl
    by false e = e

pub carried_assigned : (v : ℕ → ℕ) (r : Role) → is_assigned (carried_role v r) ≡ is_assigned r
carried_assigned v role.Operand = refl
carried_assigned v role.Assigned = refl
carried_assigned v role.Called = refl
carried_assigned v (role.Selected last called) = refl
carried_assigned v (role.New d) = refl
carried_assigned v (role.Field g) = refl
carried_assigned v (role.Key g) = refl
carried_assigned v (role.Parameter g s) = refl

-- what has to be used is a local variable
pub counted : (e : Entity) (b : Block) → is_counted e b ≡ true → (e ≡ entity.Variable) × (is_package b ≡ false)
counted entity.Variable block.Package h = cc
counted entity.Variable (block.Local i) h = (refl, refl)
counted e b h = cc

module _ (a new : Alone) (outer : Outer) (gaps : List Gap) (site : IsSite a outer gaps new) (told : TellsPieces (moved_by gaps) (file_context 0) a.tree site.patch (become (moved_by gaps) a.tree site.patch)) (free : own_second_declarations a ≡ []) where
  abbrev v : ℕ → ℕ
  v = moved_by gaps

  abbrev old_events : List Event
  old_events = replaced.old_events a new outer gaps site told

  abbrev new_events : List Event
  new_events = replaced.new_events a new outer gaps site told

  abbrev D : List Found
  D = own_declarations a

  abbrev E : List Found
  E = own_declarations new

  up : (x y : ℕ) → AtEdge gaps x → AtEdge gaps y → x < y → v x < v y
  up = replaced.up a new outer gaps site told

  -- what a declaration of the new function was
  record Origin (d : Found) : Type 0 where
    was : Declaration
    told_old : Among (event.Declaration was) old_events
    new_old : is_new (own_names a) (found_as a was) ≡ true
    still : DeclaredStill gaps was.name
    file : d.file ≡ 0
    text : d.name ≡ own_text a was.name
    edge : BlockAtEdge gaps was.block
    block : d.it.block ≡ carried_block v was.block
    entity : d.it.entity ≡ was.entity
    behind : d.it.name ≡ declared_behind v gaps was.name

  was_there : (d : Found) (x : Origin d) → Among (found_as a x.was) D
  was_there d x = among_new (own_names a) (found_as a x.was) (own_names a) x.new_old (among_found (own_text a) x.was old_events x.told_old)

  remained : (d : Declaration) (e : Event) → event.Declaration d ≡ carried_event v e → EventStays gaps e → Among e old_events → is_new (own_names new) (found_as new d) ≡ true → Origin (found_as new d)
  remained d (event.Declaration x) q s k n =
      let p : d ≡ carried_declaration v x = cc in
      let m : is_new (own_names a) (found_as a x) ≡ true = sym (replaced.new_same a new outer gaps site told x s k) ∙ subst (λ z. is_new (own_names new) (found_as new z) ≡ true) p n in
      subst (λ z. Origin (found_as new z)) (sym p)
      (record {
        was = x;
        told_old = k;
        new_old = m;
        still = inl s.name;
        file = refl;
        text = site.texts x.name s.name;
        edge = s.block;
        block = refl;
        entity = refl;
        behind = sym (kept.behind_stays v gaps x.name s.name);
      })
  remained d (event.Use x) q s k n = cc
  remained d (event.Import x) q s k n = cc
  remained d (event.Member m g x) q s k n = cc
  remained d (event.Bodiless x y) q s k n = cc
  remained d (event.Statement x y) q s k n = cc
  remained d (event.Misplaced x y) q s k n = cc
  remained d (event.SecondDefault x) q s k n = cc

  came : (d : Declaration) (g : Gap) (old news : List Event) → replaced.InGap a new outer gaps site told g old news → Among (event.Declaration d) news → Origin (found_as new d)
  came d g old news i k =
      let c = replaced.came_from a new outer gaps site told g old news i d k in
      let b : declared_behind v gaps c.it.was.name ≡ v g.from + token_in g.declared c.it.was.name = kept.behind_gap v gaps 1 c.it.was.name site.apart g i.listed c.goes_name in
      let t : token_in g.declared c.it.was.name ≡ c.it.again.token = kept.token_is g.declared c.it.again c.it.was.name c.it.listed (sym c.it.named) (λ x m e. site.once g i.listed x c.it.again m c.it.listed (inl (e ∙ c.it.named))) in
      record {
        was = c.it.was;
        told_old = i.from_old (event.Declaration c.it.was) c.it.told;
        new_old = c.it.new;
        still = inr (g, c.it.again, i.listed, c.it.listed, sym c.it.named);
        file = refl;
        text = c.text;
        edge = c.goes_block;
        block = c.it.block;
        entity = c.it.entity ∙ sym c.it.variable;
        behind = c.it.name ∙ ap (λ n. v g.from + n) (sym t) ∙ sym b;
      }

  origin : (d : Found) → Among d E → Origin d
  origin d k =
      let n : is_new (own_names new) d ≡ true = new_is (own_names new) d (own_names new) k in
      let x = found_among (own_text new) d new_events (new_found (own_names new) d (own_names new) k) in
      subst Origin (sym x.2) (by x.0 (subst (λ z. is_new (own_names new) z ≡ true) x.2 n) (replaced.old_or_new a new outer gaps site told (event.Declaration x.0) x.1))
    where
      by : (x : Declaration) → is_new (own_names new) (found_as new x) ≡ true → replaced.Remained a new outer gaps site told (event.Declaration x) ⊎ replaced.Comes a new outer gaps site told (event.Declaration x) → Origin (found_as new x)
      by x n (inl (e, q, s, m)) = remained x e q s m n
      by x n (inr (g, old, news, i, m)) = came x g old news i m

  -- ---- no name is declared twice

  clash_was : (d e : Found) (x : Origin d) (y : Origin e) → clashes d e ≡ clashes (found_as a x.was) (found_as a y.was)
  clash_was d e x y =
      ap (λ z. (same_text z e.name && same_block d e) && not (are_parameters d.it.entity e.it.entity)) x.text
      ∙ ap (λ z. (same_text (own_text a x.was.name) z && same_block d e) && not (are_parameters d.it.entity e.it.entity)) y.text
      ∙ ap (λ z. (same_text (own_text a x.was.name) (own_text a y.was.name) && z) && not (are_parameters d.it.entity e.it.entity)) blocks
      ∙ ap (λ z. (same_text (own_text a x.was.name) (own_text a y.was.name) && are_one_block 0 x.was.block 0 y.was.block) && not (are_parameters z e.it.entity)) x.entity
      ∙ ap (λ z. (same_text (own_text a x.was.name) (own_text a y.was.name) && are_one_block 0 x.was.block 0 y.was.block) && not (are_parameters x.was.entity z)) y.entity
    where
      blocks : same_block d e ≡ are_one_block 0 x.was.block 0 y.was.block
      blocks =
          ap (λ z. are_one_block z d.it.block e.file e.it.block) x.file
          ∙ ap (λ z. are_one_block 0 d.it.block z e.it.block) y.file
          ∙ ap (λ z. are_one_block 0 z 0 e.it.block) x.block
          ∙ ap (λ z. are_one_block 0 (carried_block v x.was.block) 0 z) y.block
          ∙ block_same v (AtEdge gaps) up x.was.block y.was.block (in_block gaps x.was.block x.edge) (in_block gaps y.was.block y.edge)

  pub declared_once : own_second_declarations new ≡ []
  declared_once = none_second 0 [] E (replaced.rises_new a new outer gaps site told) (λ x k. absurd k) two
    where
      two : (d e : Found) → Among d E → Among e E → (d.it.name ≡ e.it.name → ⊥) → clashes d e ≡ false
      two d e k l n =
          let x : Origin d = origin d k in
          let y : Origin e = origin e l in
          clash_was d e x y ∙ any_two D (clash_free [] D free) (found_as a x.was) (found_as a y.was) (was_there d x) (was_there e y) (λ p. n (x.behind ∙ ap (declared_behind v gaps) p ∙ sym y.behind))

  -- ---- each `:=` has a new name

  stays_by : (d : Declaration) → replaced.Remains a new outer gaps site told (event.Declaration d) ⊎ replaced.Gone a new outer gaps site told (event.Declaration d) → Stays gaps d.statement → DeclarationStays gaps d
  stays_by d (inl x) s = x.0
  stays_by d (inr (g, old, news, i, m)) s = absurd (not_in g d.statement (replaced.each_among (EventGoes g i.goes.block i.goes.end) (event.Declaration d) old i.goes.each m).statement (stays_at g gaps d.statement s i.listed))

  has_same : (x : Declaration) → DeclarationStays gaps x → Among (event.Declaration x) old_events → has_new (found_as a x) D ≡ true → has_new (found_as new (carried_declaration v x)) E ≡ true
  has_same x s k e =
      let y = new_found_of (found_as a x) D e in
      let z = found_among (own_text a) y.0 old_events (new_found (own_names a) y.0 (own_names a) y.1) in
      let n : is_new (own_names a) (found_as a z.0) ≡ true = subst (λ w. is_new (own_names a) w ≡ true) z.2 (new_is (own_names a) y.0 (own_names a) y.1) in
      let same : same_statement (found_as a x) (found_as a z.0) ≡ true = subst (λ w. same_statement (found_as a x) w ≡ true) z.2 y.2 in
      let p = both_true (nat_eq 0 0 && nat_eq x.statement z.0.statement) (is_by_define z.0.manner) same in
      let q = both_true (nat_eq 0 0) (nat_eq x.statement z.0.statement) p.0 in
      let m : x.statement ≡ z.0.statement = eq_true x.statement z.0.statement q.1 in
      let r : DeclarationStays gaps z.0 = stays_by z.0 (replaced.old_or_gone a new outer gaps site told (event.Declaration z.0) z.1) (subst (Stays gaps) m s.statement) in
      let there = kept_there z.0 (replaced.old_or_gone a new outer gaps site told (event.Declaration z.0) z.1) r in
      new_told (found_as new (carried_declaration v x)) E (found_as new (carried_declaration v z.0))
      (among_new (own_names new) (found_as new (carried_declaration v z.0)) (own_names new) (replaced.new_same a new outer gaps site told z.0 r z.1 ∙ n) (among_found (own_text new) (carried_declaration v z.0) new_events there))
      (and_true (nat_eq 0 0 && nat_eq (v x.statement) (v z.0.statement)) (is_by_define z.0.manner) (and_true (nat_eq 0 0) (nat_eq (v x.statement) (v z.0.statement)) refl (is_eq (v x.statement) (v z.0.statement) (ap v m))) p.1)
    where
      kept_there : (d : Declaration) → replaced.Remains a new outer gaps site told (event.Declaration d) ⊎ replaced.Gone a new outer gaps site told (event.Declaration d) → DeclarationStays gaps d → Among (event.Declaration (carried_declaration v d)) new_events
      kept_there d (inl y) r = y.1
      kept_there d (inr (g, old, news, i, m)) r = absurd (not_in g d.name (replaced.each_among (EventGoes g i.goes.block i.goes.end) (event.Declaration d) old i.goes.each m).name (stays_at g gaps d.name r.name i.listed))

  lacks_none_kept : (d : Declaration) (e : Event) → event.Declaration d ≡ carried_event v e → EventStays gaps e → Among e old_events → own_none_new a ≡ [] → LacksNew E (found_as new d)
  lacks_none_kept d (event.Declaration x) q s k h =
      let p : d ≡ carried_declaration v x = cc in
      subst (λ z. LacksNew E (found_as new z)) (sym p) (by (is_by_define x.manner && nat_eq x.column 0) (has_new (found_as a x) D) refl (none_lacks D (own_names a) h (found_as a x) (among_found (own_text a) x old_events k)))
    where
      by : (b c : Bool) → has_new (found_as a x) D ≡ c → (b && not c) ≡ false → (b && not (has_new (found_as new (carried_declaration v x)) E)) ≡ false
      by false c e f = refl
      by true true e f = ap not (has_same x s k e)
      by true false e f = cc
  lacks_none_kept d (event.Use x) q s k h = cc
  lacks_none_kept d (event.Import x) q s k h = cc
  lacks_none_kept d (event.Member m g x) q s k h = cc
  lacks_none_kept d (event.Bodiless x y) q s k h = cc
  lacks_none_kept d (event.Statement x y) q s k h = cc
  lacks_none_kept d (event.Misplaced x y) q s k h = cc
  lacks_none_kept d (event.SecondDefault x) q s k h = cc

  pub some_new : own_none_new a ≡ [] → own_none_new new ≡ []
  some_new h = lacks_none E (own_names new) (λ x k. let y = found_among (own_text new) x new_events k in subst (LacksNew E) (sym y.2) (by y.0 (replaced.old_or_new a new outer gaps site told (event.Declaration y.0) y.1)))
    where
      by : (d : Declaration) → replaced.Remained a new outer gaps site told (event.Declaration d) ⊎ replaced.Comes a new outer gaps site told (event.Declaration d) → LacksNew E (found_as new d)
      by d (inl (e, q, s, m)) = lacks_none_kept d e q s m h
      by d (inr (g, old, news, i, m)) =
          let c = replaced.came_from a new outer gaps site told g old news i d m in
          ap (λ z. is_by_define z && nat_eq d.column 0 && not (has_new (found_as new d) E)) c.it.manner

  -- ---- each variable is used

  -- a name means the declaration
  means_it : (t : ℕ) (w : List ℕ) (d : Found) → Among d E → is_package d.it.block ≡ false → d.file ≡ 0 → is_blank w ≡ false → own_meant new outer t w ≡ declared_at new d.it.name → means d (otherwise (own_local new t w) (outer_meaning w (outer w))) ≡ true
  means_it t w d k l z b e = by (own_local new t w) refl
    where
      found : find d.it.name E ≡ Some d
      found = (every_among (λ d. (0 ≤ d.it.name) × (find d.it.name E ≡ Some d)) d E (find_self 0 E (replaced.rises_new a new outer gaps site told)) k).1

      is_own : IsObject new d.it.name d → (i : ℕ) × (declared_at new d.it.name ≡ Some (own (object.Local 0 i))) × (token_of new i ≡ d.it.name)
      is_own (inl x) = let p : is_package d.it.block ≡ true = x.0 in cc
      is_own (inr (p, i, q, r)) = (i, q, r)

      its : (i : ℕ) × (declared_at new d.it.name ≡ Some (own (object.Local 0 i))) × (token_of new i ≡ d.it.name)
      its = is_own (object_found new site.new_itself (replaced.files_new a new outer gaps site told) d.it.name d found)

      from_outer : own_local new t w ≡ None → (x : Option Object) → outer w ≡ x → own_meant new outer t w ≡ Some (own (object.Local 0 its.0)) → ⊥
      from_outer q x r m = no_own x (sym (ap (λ c. if c then None else or_outside (own_local new t w) (outer w)) b ∙ ap (λ l. or_outside l (outer w)) q ∙ ap (or_outside None) r) ∙ m)
        where
          no_own : (x : Option Object) → or_outside None x ≡ Some (own (object.Local 0 its.0)) → ⊥
          no_own None m = cc
          no_own (Some o) m = cc

      from_local : (m : Meaning) → own_local new t w ≡ Some m → own_meant new outer t w ≡ Some (own (object.Local 0 its.0)) → means d (Some m) ≡ true
      from_local m q n =
          let f = meaning_found new 0 (replaced.rises_new a new outer gaps site told) (replaced.files_new a new outer gaps site told) t w m q in
          let ob : own m.object ≡ own (object.Local 0 its.0) = let h : Some (own m.object) ≡ Some (own (object.Local 0 its.0)) = sym (ap (λ c. if c then None else or_outside (own_local new t w) (outer w)) b ∙ ap (λ l. or_outside l (outer w)) q) ∙ n in cc in
          let g : declared_at new f.0.it.name ≡ Some (own (object.Local 0 its.0)) = f.2 ∙ ap (λ x. Some x) ob in
          let same : f.0.it.name ≡ d.it.name = one_token f.0 f.3 g in
          ap (is_declared_at d.file d.it.name) f.1 ∙ and_true (nat_eq f.0.file d.file) (nat_eq f.0.it.name d.it.name) (is_eq f.0.file d.file (f.4 ∙ sym z)) (is_eq f.0.it.name d.it.name same)
        where
          one_token : (x : Found) → find x.it.name E ≡ Some x → declared_at new x.it.name ≡ Some (own (object.Local 0 its.0)) → x.it.name ≡ d.it.name
          one_token x p g = by (object_found new site.new_itself (replaced.files_new a new outer gaps site told) x.it.name x p)
            where
              by : IsObject new x.it.name x → x.it.name ≡ d.it.name
              by (inl y) = let h : Some (own (object.Package 0)) ≡ Some (own (object.Local 0 its.0)) = sym y.1 ∙ g in cc
              by (inr (p, i, q, r)) = let h : Some (own (object.Local 0 i)) ≡ Some (own (object.Local 0 its.0)) = sym q ∙ g in let n : i ≡ its.0 = cc in sym r ∙ ap (token_of new) n ∙ its.2

      by : (o : Option Meaning) → own_local new t w ≡ o → means d (otherwise o (outer_meaning w (outer w))) ≡ true
      by None q = absurd (from_outer q (outer w) refl (e ∙ its.1))
      by (Some m) q = from_local m q (e ∙ its.1)

  module _ (d : Found) (k : Among d E) (l : is_package d.it.block ≡ false) (x : Origin d) where
    was_local : is_package x.was.block ≡ false
    was_local = by x.was.block (ap is_package (sym x.block) ∙ l)
      where
        by : (b : Block) → is_package (carried_block v b) ≡ false → is_package b ≡ false
        by block.Package e = e
        by (block.Local i) e = refl

    found_old : find x.was.name D ≡ Some (found_as a x.was)
    found_old = (every_among (λ d. (0 ≤ d.it.name) × (find d.it.name D ≡ Some d)) (found_as a x.was) D (find_self 0 D (replaced.rises_old a new outer gaps site told)) (was_there d x)).1

    found_new : find d.it.name E ≡ Some d
    found_new = (every_among (λ d. (0 ≤ d.it.name) × (find d.it.name E ≡ Some d)) d E (find_self 0 E (replaced.rises_new a new outer gaps site told)) k).1

    object_same : declared_at new d.it.name ≡ renamed a gaps new (declared_at a x.was.name)
    object_same = kept.objects_same a new outer gaps site told free x.was.name d.it.name (found_as a x.was) d found_old found_new x.behind (l ∙ sym was_local)

    some_old : (o : Meant) × (declared_at a x.was.name ≡ Some o)
    some_old = by (object_found a site.itself (replaced.files_old a new outer gaps site told) x.was.name (found_as a x.was) found_old)
      where
        by : IsObject a x.was.name (found_as a x.was) → (o : Meant) × (declared_at a x.was.name ≡ Some o)
        by (inl m) = (own (object.Package 0), m.1)
        by (inr m) = (own (object.Local 0 m.1), m.2)

    -- a use of what it is uses it
    used_by : (u : Use) → Among (event.Use u) new_events → is_assigned u.role ≡ false → own_meant new outer u.name (own_text new u.name) ≡ declared_at new d.it.name → is_used d (own_asked new outer) ≡ true
    used_by u m r e = used_told d (own_asked new outer) (own_ask new outer u) (asked.asked_told new outer new_events u m blank) (means_it u.name (own_text new u.name) d k l x.file blank e) r
      where
        blank : is_blank (own_text new u.name) ≡ false
        blank = by (is_blank (own_text new u.name)) refl
          where
            by : (b : Bool) → is_blank (own_text new u.name) ≡ b → b ≡ false
            by true q =
                let p : own_meant new outer u.name (own_text new u.name) ≡ None = ap (λ c. if c then None else or_outside (own_local new u.name (own_text new u.name)) (outer (own_text new u.name))) q in
                let z : None ≡ renamed a gaps new (Some some_old.0) = sym p ∙ e ∙ object_same ∙ ap (renamed a gaps new) some_old.1 in cc
            by false q = refl

    spent : x.was.entity ≡ entity.Variable → is_used d (own_asked new outer) ≡ true
    spent e = by (site.used x.was x.told_old x.new_old e x.still)
      where
        by : UsedThere a outer gaps new x.was.name → is_used d (own_asked new outer) ≡ true
        by (inl (u, m, s, r, q)) =
            let same : own_meant new outer (v u.name) (own_text a u.name) ≡ renamed a gaps new (own_meant a outer u.name (own_text a u.name)) = asked.kept_use a new outer gaps site told free u m s in
            let meant : own_meant a outer u.name (own_text a u.name) ≡ declared_at a x.was.name = sym (asked.old_use a new outer gaps site told free u m) ∙ q in
            used_by (carried_use v u) (kept_there u (replaced.old_or_gone a new outer gaps site told (event.Use u) m) s) (carried_assigned v u.role ∙ r)
            (ap (own_meant new outer (v u.name)) (site.texts u.name s) ∙ same ∙ ap (renamed a gaps new) meant ∙ sym object_same)
          where
            kept_there : (u : Use) → replaced.Remains a new outer gaps site told (event.Use u) ⊎ replaced.Gone a new outer gaps site told (event.Use u) → Stays gaps u.name → Among (event.Use (carried_use v u)) new_events
            kept_there u (inl y) s = y.1
            kept_there u (inr (g, old, news, i, m)) s = absurd (not_in g u.name (replaced.each_among (EventGoes g i.goes.block i.goes.end) (event.Use u) old i.goes.each m) (stays_at g gaps u.name s i.listed))
        by (inr (g, u, i, c, m, n, lt, r, q)) =
            used_by u m r (asked.new_use a new outer gaps site told free u m g c i lt n some_old.0 (q ∙ some_old.1) ∙ ap (renamed a gaps new) (sym some_old.1) ∙ sym object_same)

  pub variables_used : own_unused new outer ≡ []
  variables_used = spent_none (own_asked new outer) E (λ d k. by d k (origin d k) (is_counted d.it.entity d.it.block) refl)
    where
      by : (d : Found) → Among d E → (x : Origin d) → (b : Bool) → is_counted d.it.entity d.it.block ≡ b → (b && not (is_used d (own_asked new outer))) ≡ false
      by d k x false q = refl
      by d k x true q = let c = counted d.it.entity d.it.block q in ap not (spent d k c.1 x (sym x.entity ∙ c.0))
