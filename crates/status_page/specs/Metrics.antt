-- The metrics: each figure under its name.
use Rattle.std.specs.Prelude.{◌≡◌, ℕ, zero, suc, ◌+◌, List, [], ◌++◌, Option, Some, None, codes, flat_map, slice_index}
use Rattle.std.specs.Fmt.{decimal}
use Rattle.status_figures.specs.Layout.{counted, ending_name, in_buckets, kind_name, statements_of}
use Rattle.status_figures.specs.declared.counter.Counter.TheVariants as counters
use Rattle.status_figures.specs.declared.ending.Ending.{Ending}
use Rattle.status_figures.specs.declared.ending.TheConstants.{ENDINGS}
use Rattle.status_figures.specs.declared.figures.ConnectionFigures.{ConnectionFigures}
use Rattle.status_figures.specs.declared.figures.CutoverFigures.{CutoverFigures}
use Rattle.status_figures.specs.declared.figures.Figures.{Figures}
use Rattle.status_figures.specs.declared.figures.WorkflowFigures.{WorkflowFigures}
use Rattle.status_figures.specs.declared.figures.WorkflowState.{WorkflowState}
use Rattle.status_figures.specs.declared.figures.WorkflowState.TheVariants as states
use Rattle.status_figures.specs.declared.kind.Kind.{Kind}
use Rattle.status_figures.specs.declared.kind.TheConstants.{KINDS}
use Rattle.status_figures.specs.declared.latency.TheConstants.{BOUNDS}
use Rattle.status_figures.specs.declared.totals.Totals.{Totals}
use Rattle.status_page.specs.declared.families.Family.TheVariants as families
use Rattle.status_page.specs.Families.{family_name}
use Rattle.status_page.specs.Shards.{all_shards_text}
use Rattle.status_page.specs.Texts.{family_text, first_lines, labelled_text, plain_text, seconds_text}

unfoldable pub process_text : Figures → List ℕ
process_text f =
    family_text families.Info ++ labelled_text families.Info (codes "version") f.version.now 1 ++ plain_text families.Started f.started ++ plain_text families.Lost f.lost

unfoldable pub connections_text : ConnectionFigures → List ℕ
connections_text c =
    plain_text families.Live c.live ++ plain_text families.Queued c.queued ++ plain_text families.Workers c.workers ++ plain_text families.Waiting c.waiting ++ plain_text families.Buffer c.buffer

unfoldable pub ended_line : Totals → Ending → List ℕ
ended_line t end = labelled_text families.Ended (codes "end") (ending_name end) (counted t (counters.Ended end))

unfoldable pub endings_text : Totals → List ℕ
endings_text t = plain_text families.Begun (counted t counters.Begun) ++ family_text families.Ended ++ flat_map (ended_line t) ENDINGS

-- how many statements of a kind were answered
unfoldable pub kind_line : Totals → Kind → List ℕ
kind_line t kind = labelled_text families.Statements (codes "kind") (kind_name kind) (statements_of t kind)

unfoldable pub statements_text : Totals → List ℕ
statements_text t = family_text families.Statements ++ flat_map (kind_line t) KINDS

-- the name of a sample of the histogram, and its kind
unfoldable pub times_label : List ℕ → Kind → List ℕ
times_label suffix kind = family_name families.Times ++ suffix ++ codes "{kind=\"" ++ kind_name kind ++ codes "\""

-- how many statements of a kind took at most a bound
unfoldable pub bucket_line : Totals → Kind → ℕ → List ℕ
bucket_line t kind bucket =
    times_label (codes "_bucket") kind ++ codes ",le=\"" ++ seconds_text (slice_index BOUNDS bucket) ++ codes "\"} "
    ++ decimal (in_buckets t kind (bucket + 1)) ++ codes "\n"

unfoldable pub last_bucket_line : Totals → Kind → List ℕ
last_bucket_line t kind = times_label (codes "_bucket") kind ++ codes ",le=\"+Inf\"} " ++ decimal (statements_of t kind) ++ codes "\n"

unfoldable pub sum_lines : Totals → Kind → List ℕ
sum_lines t kind =
    times_label (codes "_sum") kind ++ codes "} " ++ seconds_text (counted t (counters.Micros kind)) ++ codes "\n"
    ++ times_label (codes "_count") kind ++ codes "} " ++ decimal (statements_of t kind) ++ codes "\n"

unfoldable pub kind_times : Totals → Kind → List ℕ
kind_times t kind = first_lines (bucket_line t kind) 17 ++ last_bucket_line t kind ++ sum_lines t kind

unfoldable pub times_text : Totals → List ℕ
times_text t = family_text families.Times ++ flat_map (kind_times t) KINDS

-- refusals have the numbers 1 to 26
unfoldable pub refusal_sample : Totals → ℕ → List ℕ
refusal_sample t number =
    family_name families.Refused ++ codes "{number=\"F" ++ decimal number ++ codes "\"} " ++ decimal (counted t (counters.Refusal number))
    ++ codes "\n"

abbrev pub refusal_line : Totals → ℕ → List ℕ
refusal_line t place = refusal_sample t (place + 1)

unfoldable pub refusals_text : Totals → List ℕ
refusals_text t = family_text families.Refused ++ first_lines (refusal_line t) 26

unfoldable pub traffic_text : Totals → List ℕ
traffic_text t =
    statements_text t ++ times_text t ++ refusals_text t ++ plain_text families.Rows (counted t counters.Rows)
    ++ plain_text families.Received (counted t counters.Received) ++ plain_text families.Sent (counted t counters.Sent)

-- 1 for the present state
abbrev pub state_flag : WorkflowState → WorkflowState → ℕ
state_flag states.None states.None = 1
state_flag states.Following states.Following = 1
state_flag states.Switching states.Switching = 1
state_flag states.Switched states.Switched = 1
state_flag _ _ = 0

unfoldable pub state_line : List ℕ → WorkflowState → WorkflowState → List ℕ
state_line name state present = labelled_text families.Workflow (codes "state") name (state_flag state present)

unfoldable pub states_text : WorkflowState → List ℕ
states_text present =
    family_text families.Workflow ++ state_line (codes "none") states.None present ++ state_line (codes "following") states.Following present
    ++ state_line (codes "switching") states.Switching present ++ state_line (codes "switched") states.Switched present

unfoldable pub step_line : List ℕ → ℕ → List ℕ
step_line step micros = family_name families.Cutover ++ codes "{step=\"" ++ step ++ codes "\"} " ++ seconds_text micros ++ codes "\n"

unfoldable pub cutover_text : CutoverFigures → List ℕ
cutover_text c =
    family_text families.Cutover ++ step_line (codes "froze") c.froze ++ step_line (codes "retired") c.retired
    ++ step_line (codes "published") c.published ++ step_line (codes "released") c.released ++ plain_text families.Waited c.waited
    ++ family_text families.Longest ++ family_name families.Longest ++ codes " " ++ seconds_text c.longest ++ codes "\n"

-- of a cutover whose times were seen
abbrev pub last_cutover_text : Option CutoverFigures → List ℕ
last_cutover_text None = []
last_cutover_text (Some c) = cutover_text c

unfoldable pub workflow_text : WorkflowFigures → List ℕ
workflow_text w =
    states_text w.state ++ plain_text families.CopySteps w.copied ++ plain_text families.FollowSteps w.followed ++ plain_text families.Copying w.copying
    ++ plain_text families.Behind w.behind ++ plain_text families.Cutovers w.cutovers ++ last_cutover_text w.cutover

-- all metrics
unfoldable pub metrics_text : Figures → List ℕ
metrics_text f =
    process_text f ++ connections_text f.connections ++ endings_text f.totals ++ traffic_text f.totals ++ workflow_text f.workflow
    ++ all_shards_text f.shards.items
