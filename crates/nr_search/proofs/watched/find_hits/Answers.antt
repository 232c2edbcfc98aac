use Rattle.std.proofs.Common.{◌≡◌, inl, inr, ◌+◌, ◌<◌, ◌≤◌, [], ◌∷◌, ◌++◌, cond, length, get_or, Some, slice_get, refl, sym, ap, ◌∙◌, subst, arith}
use Rattle.std.proofs.lemmas.Option.{slice_get_read, slice_get_within, slice_get-get_or, get_or_from_slice_get}
use Rattle.nr_rev.proofs.ListUpdateLemmas.{slice_get-set_cases}
use Rattle.nr_rev.specs.declared.cell_value.CellValue.TheVariants.{Absent}
use Rattle.nr_marks.specs.Hit.{hits_by, mark_hits, watched}
use Rattle.nr_search.proofs.WatchedLemmas.{below-more, few-more, numbers-next, reported-hit, reported-miss}
use Rattle.nr_search.proofs.watched.find_hits.Goals as goal
use Rattle.nr_search.proofs.watched.find_hits.Goals.{then-hits, else-hits}

-- the next mark has been compared, and its value has been replaced by the current one
pub loop-i-preserved : goal.loop-i-preserved
loop-i-preserved g c =
    let marks = c.args.marks.now in
    let values = c.loop-i.values in
    let i = c.loop-i.i in
    let m = c.index-marks-i.result in
    let now = g.W.Worlds.world c.args.world.now in
    let value = c.watched-value.result in
    let so_far = c.loop-i.invariant in
    let there : slice_get marks i ≡ Some m = slice_get_read marks (length marks) i m refl c.loop-i-test.true c.index-marks-i.is in
    let within : i < length c.args.values.now = omega (arith, c.told-values, c.requires.few, c.loop-i-test.true) in
    let old = get_or c.args.values.now i Absent in
    let kept : slice_get values i ≡ Some old = so_far.old i (omega arith) ∙ slice_get-get_or c.args.values.now i Absent within in
    let reported : c.if-hits.hits.items ≡ c.loop-i.hits.items ++ cond c.hits.result (m.number ∷ []) [] =
    elim c.if-hits.branch [
      | then-hits w ↦ reported-hit c.if-hits.hits.items c.loop-i.hits.items m.number c.hits.result w.if-hits.true (ap (λ h. h.items) w.hits-is ∙ w.push.ensures.items)
      | else-hits w ↦ reported-miss c.if-hits.hits.items c.loop-i.hits.items m.number c.hits.result w.if-hits.false (ap (λ h. h.items) w.hits-is)
    ]
    in
    record {
      hits = λ before remembered.
          let was = get_or_from_slice_get values i (watched before m.item) Absent (so_far.old i (omega arith) ∙ remembered.each i m there) in
          let passes : mark_hits before now c.args.next m.item ≡ c.hits.result =
          sym (c.hits.ensures ∙ ap (λ v. hits_by v value c.args.next m.item) was ∙ ap (λ v. hits_by (watched before m.item) v c.args.next m.item) c.watched-value.ensures) in
          reported ∙ numbers-next (λ x. x.number) (λ x. mark_hits before now c.args.next x.item) marks i m c.loop-i.hits.items c.hits.result c.loop-i-test.true c.index-marks-i.is
          (so_far.hits before remembered) passes;
      few = subst (λ ns. length ns ≤ i + 1) (sym reported) (few-more c.loop-i.hits.items m.number i c.hits.result so_far.few);
      new = λ k x less read. elim (slice_get-set_cases values i old value k kept) [
        | inl here ↦
            let same : Some m ≡ Some x = sym there ∙ ap (slice_get marks) (sym here.0) ∙ read in
            let is : m ≡ x = cc in
            here.1 ∙ ap Some (c.watched-value.ensures ∙ ap (λ y. watched now y.item) is)
        | inr other ↦ other.1 ∙ so_far.new k x (below-more k i less other.0) read
      ];
      old = λ k more. elim (slice_get-set_cases values i old value k kept) [
        | inl here ↦ absurd (omega (arith, here.0, more))
        | inr other ↦ other.1 ∙ so_far.old k (omega (arith, more))
      ];
    }

pub returns-clause-values : goal.returns-clause-values
returns-clause-values g c =
    record { each = λ i m read. c.loop-i.invariant.new i m (let within = slice_get_within c.args.marks.now i m read in omega arith) read }
