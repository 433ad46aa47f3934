-- What a job is for, and its feeds.
use Rattle.std.specs.Prelude.{◌≡◌, ℕ, List, length}
use Rattle.osm_area.specs.Area.{AreaSpec, box_area}
use Rattle.osm_polygon.specs.Groups.{clusters_area}
use Rattle.pbf_frame.specs.declared.device.Feed as feed
use Rattle.pbf_pass.specs.declared.hashed.PassFeed.{PassFeed}
use Rattle.pbf_published.specs.declared.traced.TracedFeed.{TracedFeed}
use Rattle.pbf_unpack.specs.declared.feed.UnpackedFeed.{UnpackedFeed}
use Rattle.pbfcut_program.specs.declared.engine.Engine.{Engine}
use Rattle.pbfcut_program.specs.declared.jobs.Cut.{Cut}
use Rattle.pbfcut_program.specs.declared.jobs.Cut.TheVariants as cut
use Rattle.pbfcut_program.specs.declared.jobs.Job.{Job}
use Rattle.pbfcut_program.specs.declared.jobs.Plan.{Plan}
use Rattle.pbfcut_program.specs.declared.jobs.Plan.TheVariants as plan
use Rattle.pbfcut_program.specs.Inputs.{AreReady, feeds_in}
use Rattle.pbfcut_program.specs.Manner.{check_in}
use Rattle.osm_ways.specs.Selection.{all_parents, complete_ways, smart}
use Rattle.osm_ways.specs.Whole.{is_wanted}
use Rattle.pbfcut.specs.Tasks.{Task, converting, copying, extracting, passes_of}

abbrev pub area_of : Cut → AreaSpec
area_of (cut.Box box) = box_area box
area_of (cut.Polygon area) = clusters_area area

abbrev pub plan_of : Plan → Task
plan_of plan.Convert = converting
plan_of plan.Copy = copying
plan_of (plan.Extract c) = extracting complete_ways (area_of c)
plan_of (plan.ExtractParents c) = extracting all_parents (area_of c)
plan_of (plan.ExtractSmart c types) = extracting (smart (is_wanted types)) (area_of c)

abbrev pub task_of : {F : Type 0} → Job F → Task
task_of job = plan_of job.plan

abbrev pub feeds_of : {F : Type 0} → Job F → List F
feeds_of job = feeds_in job.inputs

-- it has a feed for each pass, and they are ready
pub record IsReadyFor {F : Type 0} (f : feed.Ghosts F) (u : feed.Ghosts (UnpackedFeed (TracedFeed (PassFeed F)))) (engine : Engine) (key : ℕ) (job : Job F) : Type 0 where
  pub count : length (feeds_of job) ≡ passes_of (task_of job)
  pub ready : AreReady f u engine.program (check_in engine key) job.inputs
