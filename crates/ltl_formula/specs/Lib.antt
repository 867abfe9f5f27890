pub mod ChoiceView
pub mod FormsView
pub mod NeedsView
pub mod SharedNodesView
pub mod PlacesView
pub mod TableView
pub mod WalkView
