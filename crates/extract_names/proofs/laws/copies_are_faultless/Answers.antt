use Rattle.extract_names.proofs.AllRules.{NoneFails, each_rule, no_faults}
use Rattle.extract_names.proofs.laws.copies_are_faultless.Goals as goal

pub returns : goal.returns
returns c a new outer d copy e =
    let h : NoneFails a outer = each_rule a outer e in
    record {
      kept = c.copied_tokens_mean_what_they_meant.ensures a new outer d copy;
      holes = c.names_in_place_of_holes_are_parameters.ensures a new outer d copy;
      faultless =
          no_faults new outer
          (record {
            once = c.copied_names_are_declared_once.ensures a new outer d copy h.once;
            some_new = c.copied_assignments_declare_new_names.ensures a new outer d copy h.some_new;
            declared = c.copied_names_stay_declared.ensures a new outer d copy h.once h.declared;
            known = c.copied_names_stay_in_the_profile.ensures a new outer d copy h.once h.known;
            members = c.copied_members_of_imports_stay_in_the_profile.ensures a new outer d copy h.once h.members;
            called = c.copied_members_of_imports_stay_called.ensures a new outer d copy h.once h.called;
            initial = c.copied_initialisers_stay_outside.ensures a new outer d copy h.once h.initial;
            used = c.copied_variables_are_used.ensures a new outer d copy h.once;
            placed = c.copied_branches_stand_where_they_may.ensures a new outer d copy h.placed;
            groups = c.copied_members_stand_once.ensures a new outer d copy h.groups;
            defaults = c.copied_switches_have_one_default.ensures a new outer d copy h.defaults;
            lists = c.copied_lists_hide_no_names.ensures a new outer d copy h.lists;
            needs = c.copied_declarations_need_others.ensures a new outer d copy h.needs;
          });
    }
