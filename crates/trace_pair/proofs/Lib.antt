pub mod Tables
pub mod Standings
pub mod FoldParts
pub mod SeenTables
pub mod WalkedRows
pub mod ItemPlaces
pub mod RowsOnce
mod UnfoldedRows
mod NumberedChanges
mod LinkNames
mod RowsWith
mod FoundRows
mod CountedRows
pub mod ChartRows
pub mod ChangeSteps
pub mod ListedChanges
pub mod LossyChanges
pub mod BegunRows
pub mod LossPlaces
mod LossesOnce
mod LossyRows
pub mod LostRows
pub mod ChartPlaces
pub mod LeftItems
pub mod Asking
mod Beside
mod OwnItems
mod FirstChanges
mod Agreeing
pub mod LongerWalk
mod LongerLinks
mod ChartRequests
mod ChartItems
mod DifferingOutcomes
mod ToldOutcomes
mod ComparedChanges
mod PagesInMemory
mod PageStyle
