mod DeskSteps
mod JobLists
