pub mod EffectLaws
pub mod RegsLaws
pub mod RunLaws
pub mod RunToLaws
pub mod StoreLaws
pub mod PlanLaws
pub mod KeptSteps
pub mod KeptEvents
pub mod FoldLaws
pub mod WellFormedImplies
pub mod StepsOfRuns
pub mod StepsOfRunsTo
pub mod Fixed
pub mod RangeLemmas
mod StayLists
mod StayCalls
pub mod StayEvents
mod Clock
