-- The jobs that a desk did, with one job more.
-- Used by `Crew::draw_all`.
use Rattle.std.proofs.Common.{◌≡◌, ◌∙◌, List, [], ◌∷◌, ◌++◌, ap, sym, subst, refl, append-nil, append_assoc}
use Rattle.gate_history.specs.declared.entry.Entry.{Entry}
use Rattle.crawl_workers.specs.declared.crew.Done.{Done}
use Rattle.crawl_job.specs.declared.job.Job.{Job}
use Rattle.crawl_workers.specs.Shifts.{AreDone, IsDone}
use Rattle.page_worker.specs.World.{World}

pub did_more : (world : World) (jobs : List Job) (done : List Done) (last : Done) (own more : List Entry)
    → AreDone world jobs done own → IsDone world jobs last more → AreDone world jobs (done ++ last ∷ []) (own ++ more)
did_more world jobs [] last own more so_far this = record {
  first = more;
  later = [];
  first_is = this;
  later_are = refl;
  own_is = ap (λ entries. entries ++ more) so_far ∙ sym (append-nil more);
}
did_more world jobs (done ∷ later) last own more so_far this = record {
  first = so_far.first;
  later = so_far.later ++ more;
  first_is = so_far.first_is;
  later_are = did_more world jobs later last so_far.later more so_far.later_are this;
  own_is = ap (λ entries. entries ++ more) so_far.own_is ∙ append_assoc so_far.first so_far.later more;
}

pub did_another : (world : World) (jobs : List Job) (done now : List Done) (last : Done) (own more after : List Entry)
    → now ≡ done ++ last ∷ [] → after ≡ own ++ more → AreDone world jobs done own → IsDone world jobs last more → AreDone world jobs now after
did_another world jobs done now last own more after items entries so_far this =
    subst (λ (xs : List Done). AreDone world jobs xs after) (sym items)
    (subst (AreDone world jobs (done ++ last ∷ [])) (sym entries) (did_more world jobs done last own more so_far this))
