use Rattle.std.proofs.Common.{◌≡◌, [], drop}
use Rattle.mp_words.specs.Faults.{least_from}
use Rattle.mp_schematext.specs.Scopes.{env_behind}
use Rattle.mp_patterntext.specs.Scopes.{syms_of}
use Rattle.mp_schematext.specs.Statics.{items_faults}
use Rattle.mp_schematext.proofs.statics.check_items.Given as goal

abbrev pub invariant-loop-item : goal.invariant-loop-item
invariant-loop-item l = record {
  bound : env_behind (drop l.item-index l.items) l.env.items ≡ env_behind l.items l.fn.env.items;
  found : least_from l.held (items_faults (syms_of l.known.items) l.is_matched (drop l.item-index l.items) l.env.items) ≡ least_from l.fn.held (items_faults [] l.is_matched l.items l.fn.env.items);
}
