use Rattle.ss_table.proofs.part.Part.put_new.Goals as goal

pub wide-requires-clause-slot : goal.wide-requires-clause-slot
wide-requires-clause-slot c = c.in-Ok.ensures.few

pub returns-in-Ok-clause-ok : goal.returns-in-Ok-clause-ok
returns-in-Ok-clause-ok c = record {
  at = c.in-Ok.slot;
  is_slot = c.wide.ensures;
  is = c.in-Ok.ensures.ok;
  fresh = c.in-Ok.ensures.fresh;
  there = c.in-Ok.ensures.there;
  keyed = c.rows_are_keyed.ensures;
}
