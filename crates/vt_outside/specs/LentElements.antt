-- What a list ends as where a `&mut` to its elements is returned.
use Rattle.std.specs.Prelude.{List, length}
use Rattle.std.specs.List.{refill}
use Rattle.std.specs.Borrow.{Lends, Fml, RattleType, MutBor, Array}
use Rattle.vt_outside.specs.Lists.{ListView}
use Rattle.vt_outside.specs.contracts.items.Items.{the_row}

module _ (I : RattleType) (l : MutBor (ListView I.Denot)) where
  -- once the borrow r ends, the elements are those that r shows last (a write through r keeps their number), and the room is as before
  abbrev pub lends_elements : MutBor (List I.Denot) → Fml
  lends_elements r = Lends (the_row I) (Array I 0) l r (λ w. record l.now { elements = refill (length l.now.elements) l.now.elements w })
