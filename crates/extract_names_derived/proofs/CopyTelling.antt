-- What a function tells that begins with a copy of a run.
use Rattle.std.proofs.Common.{◌≡◌, ◌∙◌, ℕ, Bool, true, false, List, [], ◌∷◌, ◌++◌, Option, None, refl, sym, ap, subst, eq-eqb}
use Rattle.std.specs.Prelude.{nat_eq, if◌then◌else◌}
use Rattle.go_rewriting.specs.Places.{Patches, done, become_all}
use Rattle.go_tree.specs.declared.context.Block.{Block}
use Rattle.go_tree.specs.declared.context.Block.TheVariants as block
use Rattle.go_tree.specs.declared.context.Context.{Context}
use Rattle.go_tree.specs.declared.context.Role.{Role}
use Rattle.go_tree.specs.declared.context.Scope.{Scope}
use Rattle.go_tree.specs.declared.context.Site.{Site}
use Rattle.go_tree.specs.declared.context.Site.TheVariants as site
use Rattle.go_tree.specs.declared.event.Event.{Event}
use Rattle.go_heads.specs.Functions.{Alone}
use Rattle.go_scopes_bodies.specs.Carried.{carried_token, carried_scopes, carried_site}
use Rattle.go_scopes_bodies.specs.Listed.{told_list}
use Rattle.extract_names.specs.Copies.{Copy, is_around, copied_block, EventCopied, AllCopied}
use Rattle.extract_names.specs.Pieces.{told_before}
use Rattle.extract_names.specs.Sites.{EachEvent, specification_at}
use Rattle.extract_names_derived.specs.Apart.{AreHoles, HolesLook, bare}
use Rattle.extract_names_derived.specs.Copied.{outside_loops, CopyStands, copy_pieces, CopyTold}
use Rattle.extract_names_derived.specs.Copies.{SplitsAt, RunPlaced}
use Rattle.extract_names_derived.specs.Holes.{copied_role, copied_context, HolesTell, hole_list}
use Rattle.extract_names_derived.proofs.Outside.{place_behind}

abbrev make : Block → ℕ → Role → Site → Option ℕ → Option ℕ → ℕ → Option ℕ → Option Scope → Bool → Bool → Bool → Bool → Bool → Bool → Bool → Context
make b e r s p q n g o c i l k t f a = record {
  block = b;
  end = e;
  role = r;
  site = s;
  specification = p;
  source = q;
  column = n;
  group = g;
  parameters = o;
  constant = c;
  initial = i;
  listed = l;
  breaks = k;
  continues = t;
  followed = f;
  falls = a;
}

same_context : (x y : Context) → x.block ≡ y.block → x.end ≡ y.end → x.role ≡ y.role → x.site ≡ y.site → x.specification ≡ y.specification → x.source ≡ y.source → x.column ≡ y.column → x.group ≡ y.group → x.parameters ≡ y.parameters
    → x.constant ≡ y.constant → x.initial ≡ y.initial → x.listed ≡ y.listed → x.breaks ≡ y.breaks → x.continues ≡ y.continues → x.followed ≡ y.followed → x.falls ≡ y.falls → x ≡ y
same_context x y hb he hr hs hp hq hn hg ho hc hi hl hk ht hf ha =
    ap (λ z. make z x.end x.role x.site x.specification x.source x.column x.group x.parameters x.constant x.initial x.listed x.breaks x.continues x.followed x.falls) hb
    ∙ ap (λ z. make y.block z x.role x.site x.specification x.source x.column x.group x.parameters x.constant x.initial x.listed x.breaks x.continues x.followed x.falls) he
    ∙ ap (λ z. make y.block y.end z x.site x.specification x.source x.column x.group x.parameters x.constant x.initial x.listed x.breaks x.continues x.followed x.falls) hr
    ∙ ap (λ z. make y.block y.end y.role z x.specification x.source x.column x.group x.parameters x.constant x.initial x.listed x.breaks x.continues x.followed x.falls) hs
    ∙ ap (λ z. make y.block y.end y.role y.site z x.source x.column x.group x.parameters x.constant x.initial x.listed x.breaks x.continues x.followed x.falls) hp
    ∙ ap (λ z. make y.block y.end y.role y.site y.specification z x.column x.group x.parameters x.constant x.initial x.listed x.breaks x.continues x.followed x.falls) hq
    ∙ ap (λ z. make y.block y.end y.role y.site y.specification y.source z x.group x.parameters x.constant x.initial x.listed x.breaks x.continues x.followed x.falls) hn
    ∙ ap (λ z. make y.block y.end y.role y.site y.specification y.source y.column z x.parameters x.constant x.initial x.listed x.breaks x.continues x.followed x.falls) hg
    ∙ ap (λ z. make y.block y.end y.role y.site y.specification y.source y.column y.group z x.constant x.initial x.listed x.breaks x.continues x.followed x.falls) ho
    ∙ ap (λ z. make y.block y.end y.role y.site y.specification y.source y.column y.group y.parameters z x.initial x.listed x.breaks x.continues x.followed x.falls) hc
    ∙ ap (λ z. make y.block y.end y.role y.site y.specification y.source y.column y.group y.parameters y.constant z x.listed x.breaks x.continues x.followed x.falls) hi
    ∙ ap (λ z. make y.block y.end y.role y.site y.specification y.source y.column y.group y.parameters y.constant y.initial z x.breaks x.continues x.followed x.falls) hl
    ∙ ap (λ z. make y.block y.end y.role y.site y.specification y.source y.column y.group y.parameters y.constant y.initial y.listed z x.continues x.followed x.falls) hk
    ∙ ap (λ z. make y.block y.end y.role y.site y.specification y.source y.column y.group y.parameters y.constant y.initial y.listed y.breaks z x.followed x.falls) ht
    ∙ ap (λ z. make y.block y.end y.role y.site y.specification y.source y.column y.group y.parameters y.constant y.initial y.listed y.breaks y.continues z x.falls) hf
    ∙ ap (λ z. make y.block y.end y.role y.site y.specification y.source y.column y.group y.parameters y.constant y.initial y.listed y.breaks y.continues y.followed z) ha

site_elsewhere : (v : ℕ → ℕ) (s : Site) → specification_at s ≡ None → carried_site v s ≡ site.Elsewhere
site_elsewhere v site.Elsewhere e = refl
site_elsewhere v (site.Type s) e = absurd cc
site_elsewhere v (site.Value s column alone) e = absurd cc
site_elsewhere v (site.Right s reach) e = absurd cc

module _ (a new : Alone) (c : Copy) (s : SplitsAt a c) (x : CopyStands a new c s) where
  abbrev old : Context
  old = s.run_told.context

  abbrev here : Context
  here = outside_loops old

  around_is : nat_eq s.run_told.around c.around ≡ true
  around_is = eq-eqb s.run_told.around c.around (sym x.around)

  context_same : x.split.context ≡ copied_context c here
  context_same =
      same_context x.split.context (copied_context c here)
      (x.split.block ∙ sym (ap (copied_block c) s.run_told.block ∙ ap (λ b. if b then block.Local c.body else block.Local (c.place s.run_told.around)) around_is))
      (x.split.end ∙ sym (ap (λ b. if is_around c b then c.close else c.place old.end) s.run_told.block ∙ ap (λ b. if b then c.close else c.place old.end) around_is))
      (x.split.role ∙ sym (ap (copied_role c old.block) s.run_told.role))
      (x.split.site ∙ sym (site_elsewhere c.place old.site s.run_told.site))
      (x.split.specification ∙ sym (ap (carried_token c.place) s.run_told.specification))
      (x.split.source ∙ sym (ap (carried_token c.place) s.run_told.source))
      (x.split.column ∙ sym s.run_told.column)
      (x.split.group ∙ sym (ap (carried_token c.place) s.run_told.group))
      (x.split.parameters ∙ sym (ap (carried_scopes c.place) s.run_told.parameters))
      (x.split.constant ∙ sym s.run_told.constant)
      (x.split.initial ∙ sym s.run_told.initial)
      (x.split.listed ∙ sym s.run_told.listed)
      x.split.breaks
      x.split.continues
      (x.split.last ∙ sym s.run_told.last)
      (x.split.falls ∙ sym s.run_told.falls)

  tells : HolesTell c here false s.run_told.statements x.holes
  tells = s.run_told.replaced x.around here refl s.run_told.parameters false x.holes x.inside

  run_is : told_before (copy_pieces a new c s x) ≡ s.run
  run_is = tells.before ∙ sym x.stays ∙ sym s.run_told.told

  all_copied : (qs : Patches) → qs ≡ done → told_before (hole_list c here false s.run_told.statements qs) ≡ s.run → EachEvent (EventCopied c) s.run → AllCopied c [] (hole_list c here false s.run_told.statements qs)
  all_copied qs e p h = subst (λ z. told_before (hole_list c here false s.run_told.statements z) ≡ s.run → AllCopied c [] (hole_list c here false s.run_told.statements z)) (sym e)
      (λ q. (subst (EachEvent (EventCopied c)) (sym (sym (append_none (told_list here false s.run_told.statements)) ∙ q)) h, refl)) p
    where
      append_none : (es : List Event) → es ++ [] ≡ es
      append_none [] = refl
      append_none (y ∷ es) = ap (λ z. y ∷ z) (append_none es)

  -- With names in place of holes what the run tells elsewhere is copied.
  holes_told : c.end ≡ s.run_told.context.end → RunPlaced a new c → AreHoles c s.run_told.statements x.holes → HolesLook (copy_pieces a new c s x) → AllCopied c c.holes (copy_pieces a new c s x)
  holes_told e p h l =
      s.run_told.holes_copied x.around e (place_behind c (p.edge s.some).0 p.rises) x.holes x.inside h (subst (EachEvent (EventCopied (bare c))) (sym run_is) (s.run_told.bare_copied x.around e)) l

  pub copy_told : CopyTold a new c s x
  copy_told = record {
    told = run_is;
    new_told =
        x.split.told
        ∙ ap (λ z. x.split.head ++ (z ++ told_list x.split.context false x.others)) (ap (λ z. told_list z false (become_all c.place s.run_told.statements x.holes)) context_same ∙ tells.copied);
    copied = λ e n d. all_copied x.holes d run_is (s.run_told.copied x.around e n);
    holes_copied = holes_told;
  }
