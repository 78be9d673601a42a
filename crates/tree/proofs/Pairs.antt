-- A proof of two facts at once, where two named clauses are asked.

pub both : {A B C : Type 0} → (A → B → C) → A × B → C
both f p = f p.0 p.1
