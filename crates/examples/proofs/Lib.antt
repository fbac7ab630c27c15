mod AloneLaws
mod DeskLaws
