use mathlib.Core.Path.{sym, ◌∙◌}
use Rattle.shift.proofs.CheckedLaws.{passed}
use Rattle.member.proofs.NotedSteps.{front-in}
use Rattle.member.proofs.NotedLaws.{told-plain, told-notes, asked-notes, asked-body, asked-front}
use Rattle.member.proofs.noted.fill_flagged.Goals as goal

pub front_alone-joins-requires : goal.front_alone-joins-requires
front_alone-joins-requires c = front-in _ _ c.front_of-j.ensures

pub joins_notes-requires : goal.joins_notes-requires
joins_notes-requires c = asked-front c.requires.2 _ c.front_of-j.ensures

pub join_notes-requires : goal.join_notes-requires
join_notes-requires c = let test = sym c.joins_notes.ensures ∙ c.if-joins_notes.true in record { n_nonzero = asked-notes c.requires.0 c.requires.1 c.requires.2 0 _ _ c.front_alone-joins.ensures c.front_of-j.ensures test; in_bounds = asked-body c.requires.0 c.requires.1 c.requires.2 0 _ _ c.front_alone-joins.ensures c.front_of-j.ensures test }

pub returns-then-joins_notes : goal.returns-then-joins_notes
returns-then-joins_notes c = let test = sym c.joins_notes.ensures ∙ c.if-joins_notes.true in record { value = λ ds x y. (passed _ _ _ _ _ (told-notes ds x y _ _ _ c.front_alone-joins.ensures c.front_of-j.ensures test) (c.join_notes.ensures.value, c.join_notes.ensures.out_after)).0; out_after = λ ds x y. (passed _ _ _ _ _ (told-notes ds x y _ _ _ c.front_alone-joins.ensures c.front_of-j.ensures test) (c.join_notes.ensures.value, c.join_notes.ensures.out_after)).1 }

pub returns : goal.returns
returns c = let test = sym c.joins_notes.ensures ∙ c.if-joins_notes.false in record { value = λ ds x y. (passed _ _ _ _ _ (told-plain ds x y _ _ _ c.front_alone-joins.ensures c.front_of-j.ensures test) (c.fill_round.ensures.value, c.fill_round.ensures.out_after)).0; out_after = λ ds x y. (passed _ _ _ _ _ (told-plain ds x y _ _ _ c.front_alone-joins.ensures c.front_of-j.ensures test) (c.fill_round.ensures.value, c.fill_round.ensures.out_after)).1 }
